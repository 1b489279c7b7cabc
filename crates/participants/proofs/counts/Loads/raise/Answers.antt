-- A place counts one more or stays; after 32 places all have theirs.
use Rattle.std.proofs.Common.{◌≡◌, ◌+◌, length, slice_index_or, sym, ap, ◌∙◌, arith}
use Rattle.std.proofs.lemmas.List.{length-set}
use Rattle.participants.specs.Loads.{raised}
use Rattle.participants.proofs.Raising.{Rising, Rising-takes, Rising-leaves, Rising-ends}
use Rattle.participants.proofs.counts.Loads.raise.Goals as goal
use Rattle.participants.proofs.counts.Loads.raise.Goals.{then-has, else-has}

pub loop-place-preserved : goal.loop-place-preserved
loop-place-preserved c =
    let set = c.args.set.bits in let old = c.self.inside.counts in
    let new = c.loop-place.self-inside.counts in let n = c.loop-place.place in
    let before = c.loop-place.invariant.rising in
    elim c.if-has.branch [
      | then-has w ↦
          let counts = ap (λ z. z.counts) w.self-inside-is in
          record {
            full = ap length counts ∙ length-set new n (slice_index_or new n 0 + 1) ∙ c.loop-place.invariant.full;
            rising = rw counts (Rising-takes set old new n before (omega (arith, c.loop-place.invariant.full)) (sym c.has.ensures ∙ w.if-has.true));
          }
      | else-has w ↦
          let counts = ap (λ z. z.counts) w.self-inside-is in
          record {
            full = ap length counts ∙ c.loop-place.invariant.full;
            rising = rw counts (Rising-leaves set old new n before (sym c.has.ensures ∙ w.if-has.false));
          }
    ]

pub returns : goal.returns
returns c =
    let last : c.loop-place.place ≡ 32 = omega arith in
    let rising = c.loop-place.invariant.rising in
    let all : Rising c.args.set.bits c.self.inside.counts c.loop-place.self-inside.counts 32 = rw last at rising in
    Rising-ends c.args.set.bits c.self.inside.counts c.loop-place.self-inside.counts all c.loop-place.invariant.full ∙ ap (raised c.args.set.bits) c.self.view_is
