use Rattle.std.proofs.Common.{◌∙◌, refl, arith}
use Rattle.turn_lock.proofs.Taking.{cuts, stage_in, is_alone}
use Rattle.turn_lock.proofs.Gathered.{handed, left_over, one_more}
use Rattle.turn_lock.proofs.passes.number_passes.Goals as goal

pub split_seat-seat-requires : goal.split_seat-seat-requires
split_seat-seat-requires g c = (
  c.numbers.invariant.seat,
  c.requires.lock.1,
  cuts g.V.Kept.fixed g.V.Kept.entries g.V.Kept.number _ _ _ _ _ (stage_in _ _ _ _ c.numbers.invariant.stage),
)

pub invariant_of-pass : goal.invariant_of-pass
invariant_of-pass g c =
    let h = is_alone _ _ _ (handed _ _ _ _ _ _ c.numbers.invariant.stage c.split_seat-seat.ensures.4 c.numbers-test.true) in record { numbered = h.0; counts = omega arith; idle = h.1; empty = h.2 }

pub numbers-preserved : goal.numbers-preserved
numbers-preserved g c = record {
  seat = c.split_seat-seat.ensures.0 ∙ c.numbers.invariant.seat;
  stage = left_over _ _ _ _ _ _ c.numbers.invariant.stage c.split_seat-seat.ensures.2 c.numbers-test.true;
  made = one_more _ _ _ _ _ _ _ c.in_ok-push.ensures.items c.numbers.invariant.made (c.split_seat-seat.ensures.3 ∙ c.numbers.invariant.seat) refl
      (handed _ _ _ _ _ _ c.numbers.invariant.stage c.split_seat-seat.ensures.4 c.numbers-test.true);
}
