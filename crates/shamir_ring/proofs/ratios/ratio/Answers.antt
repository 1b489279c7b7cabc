-- The difference of two points has an inverse, and i times that is the ratio.
use Rattle.std.proofs.Common.{◌≡◌, ◌<◌, subst, ℕ, sym, arith, rules}
use Rattle.std.specs.Prelude.{pos, ◌-ℤ◌}
use Rattle.std.specs.Int.{IsGcd}
use Rattle.ring_spec.specs.Ring.{residue}
use Rattle.ring_laws.proofs.Congruences.{residue_below}
use Rattle.shamir_ring.proofs.Quotient.{residue_unit, unit_apart, ratio_by_inverse}
use Rattle.shamir_ring.proofs.ratios.ratio.Goals as goal

pub inverse-requires-clause-residue : goal.inverse-requires-clause-residue
inverse-requires-clause-residue c =
    let P : ℕ → Type 0 = λ z. z < c.args.q in
    subst P (sym c.difference.ensures) (residue_below c.args.q (pos c.from-i.result -ℤ pos c.from.result) (omega arith))

pub returns-in-Some : goal.returns-in-Some
returns-in-Some c =
    ratio_by_inverse c.args.q c.args.i c.args.j c.difference.result c.in-Some.y c.product.result (omega arith) c.requires.no_small_divisor c.requires.apart
    c.requires.first c.requires.second (search rules) c.in-Some.ensures.inverse (search rules)

pub returns-in-None : goal.returns-in-None
returns-in-None c =
    let q = c.args.q in
    let P : ℕ → Type 0 = λ z. IsGcd z q 1 in
    let same : c.difference.result ≡ residue q (pos c.args.i -ℤ pos c.args.j) = search rules in
    let apart : IsGcd c.difference.result q 1 =
    subst P (sym same) (unit_apart q (residue q (pos c.args.i -ℤ pos c.args.j)) (omega arith)
    (residue_unit q c.args.i c.args.j (omega arith) c.requires.no_small_divisor c.requires.apart c.requires.first c.requires.second)) in
    let there = c.in-None.ensures.exactly.1 apart in
    absurd (cc)
