-- A turn takes one coefficient more, from the last to the first.
use Rattle.std.proofs.Common.{◌≡◌, ◌+◌, ◌-◌, ◌<◌, ℕ, [], length, get_or, drop, replicate, ap, ◌∙◌, arith, rules}
use Rattle.std.proofs.lemmas.Grind.{common_steps}
use Rattle.std.proofs.lemmas.List.{get_or_read}
use Rattle.ring_spec.specs.Ring.{ring_sum, ring_multiple}
use Rattle.shamir_ring.proofs.Horner.{value_start, value_step, value_poly}
use Rattle.shamir_ring.proofs.dealing.Dealing.at.Goals as goal

pub loop-place-init : goal.loop-place-init
loop-place-init c =
    let p = c.args.ring.now.params in
    let fs = c.args.self.now in
    let now = c.as_mut_slice-entries.result.now in
    let zeros : now ≡ replicate p.n 0 = (first_of (search rules, cc, grind (arith, common_steps))) in
    let value = value_start p.q p.n c.args.point (length fs - 0) fs now (omega arith) zeros (omega arith) in
    record { fits = value_poly p.q p.n (drop (length fs - 0) fs) c.args.point now (omega arith) value; value = value }

pub loop-place-preserved : goal.loop-place-preserved
loop-place-preserved c =
    let p = c.args.ring.now.params in
    let fs = c.args.self.now in
    let k = c.loop-place.place in
    let before = c.loop-place.invariant in
    let f = c.coeffs.result.now in
    let size : length c.loop-place.entries ≡ p.n = before.fits.entries in
    let count : c.len.result ≡ length fs = (first_of (search rules, omega (arith, ap length c.self.view_is))) in
    let within : k < length fs = (first_of (omega arith, search rules)) in
    let place : c.len.result - 1 - k ≡ length fs - 1 - k = omega arith in
    let there : f ≡ get_or fs (c.len.result - 1 - k) f = (first_of (search rules, cc)) in
    let read : f ≡ get_or fs (length fs - 1 - k) f = there ∙ ap (λ (i : ℕ). get_or fs i f) place in
    let stepped : c.horner.new.value ≡ ring_sum p.q p.n f (ring_multiple p.q p.n c.args.point c.loop-place.entries) = (first_of (cc, search rules)) in
    let value = value_step p.q p.n c.args.point fs k c.loop-place.entries c.horner.new.value f (omega arith) within before.value
    (get_or_read fs (length fs - 1 - k) f (omega arith) read []) stepped in
    record { fits = value_poly p.q p.n (drop (length fs - (k + 1)) fs) c.args.point c.horner.new.value (omega arith) value; value = value }
