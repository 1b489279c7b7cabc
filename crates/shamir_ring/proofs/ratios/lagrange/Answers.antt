-- A turn takes the ratio of a member other than j, or leaves the product as it is.
use Rattle.std.proofs.Common.{◌≡◌, ◌+◌, subst, ℕ, sym, ◌∙◌, arith, rules}
use Rattle.std.proofs.lemmas.Bool.{both_ways}
use Rattle.share_spec.specs.Sets.{has}
use Rattle.shamir_ring.proofs.Quotient.{so_far, so_far-takes, so_far-leaves, member_small}
use Rattle.shamir_ring.proofs.ratios.lagrange.Goals as goal
use Rattle.shamir_ring.proofs.ratios.lagrange.Goals.{then-has+then-i-j, else-has, else-has-via-then-has+else-i-j, else-has-via-else-has}

pub ratio-requires-clause-second : goal.ratio-requires-clause-second
ratio-requires-clause-second c = member_small c.args.set.bits c.args.j c.has.result c.has.ensures (search rules)

pub loop-place-preserved : goal.loop-place-preserved
loop-place-preserved c =
    let q = c.args.q in let set = c.args.set.bits in let j = c.args.j in let n = c.loop-place.place in
    let was = c.loop-place.value in
    let before = c.loop-place.invariant in
    elim c.if-has.branch [
      | then-has+then-i-j w ↦ record {
        below = omega arith;
        value = so_far-takes q set j n was w.ratio.result c.if-has.value before.value (sym c.has-in-loop-place.ensures ∙ w.if-has.true) (search rules) w.ratio.ensures
            (w.value-is ∙ w.product-value.ensures);
      }
      | else-has w ↦ record {
        below = omega arith;
        value =
            let P : ℕ → Type 0 = λ z. z ≡ so_far q set j (n + 1) in
            subst P (sym w.value-is) (so_far-leaves q set j n was before.value (elim w.else-has.branch [
              | else-has-via-then-has+else-i-j v ↦ λ m. omega arith
              | else-has-via-else-has v ↦ λ m. absurd (both_ways (has set (n + 1)) (sym c.has-in-loop-place.ensures ∙ v.if-has.false) m)
            ]));
      }
    ]
