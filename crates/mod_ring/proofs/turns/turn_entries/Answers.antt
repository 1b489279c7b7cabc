-- The loop has written each entry, and none twice.
use Rattle.std.proofs.Common.{ℕ, ◌+◌, ◌-◌, ◌*◌, ◌%◌, ◌∙◌, ap, arith, length, get_or, set, refl}
use Rattle.mod_ring.proofs.Turned.{Turned-start, Turned-next, Turned-end}
use Rattle.std.specs.Prelude.{pos, neg_ℤ}
use Rattle.ring_spec.specs.Ring.{residue}
use Rattle.ring_laws.proofs.Residues.{entry_below}
use Rattle.ring_ntt.proofs.PowersOfTwo.{levels_within}
use Rattle.mod_ring.proofs.turns.turn_entries.Goals as goal

pub loop-i-init : goal.loop-i-init
loop-i-init c =
    Turned-start c.args.q (length c.args.entries.now) c.args.g c.args.f.now c.args.entries.now (omega (arith, c.requires.degree.0)) c.requires.modulus c.requires.zeros

pub loop-i-preserved : goal.loop-i-preserved
loop-i-preserved c =
    let n = length c.args.entries.now in
    let p = levels_within n c.requires.degree.0 c.requires.degree.1 c.requires.degree.2 in
    let len = c.requires.poly.entries in
    let long = c.loop-i.auto.entries in
    let l = c.loop-i-test.true in
    let x = get_or c.args.f.now c.loop-i.i 0 in
    Turned-next c.args.q n p.0 c.args.g c.args.f.now c.loop-i.entries c.put.new.entries c.loop-i.i c.loop-i.place c.next_place-place.result x
    p.3 c.requires.odd (omega (arith, len, l)) long refl
    (entry_below c.args.q n c.args.f.now c.loop-i.i c.requires.poly (omega (arith, len, l)))
    (omega (arith, c.requires.degree.0, c.loop-i.invariant.here))
    (λ h. c.put.ensures.low (omega (arith, h, long)))
    (λ h.
    c.put.ensures.high (omega (arith, h, long))
    ∙ ap (λ (m : ℕ). set c.loop-i.entries (c.loop-i.place - m) (residue c.args.q (neg_ℤ (pos x)))) long)
    (c.next_place-place.ensures ∙ ap (λ (m : ℕ). (c.loop-i.place + c.args.g) % (2 * m)) len)
    c.loop-i.invariant

pub returns : goal.returns
returns c =
    let len = c.requires.poly.entries in
    Turned-end c.args.q (length c.args.entries.now) c.args.g c.args.f.now c.loop-i.entries c.loop-i.i c.loop-i.place c.loop-i.auto.entries (omega (arith, len, c.loop-i-test.false, c.loop-i.auto.i-end)) c.loop-i.invariant
