use Rattle.std.proofs.Common.{◌≡◌, ◌∙◌, ◌++◌, ◌∷◌, [], length, rules}
use Rattle.turn_lock.proofs.Keeps.{joins}
use Rattle.turn_lock.proofs.Taking.{stage_in, view_in, slots_in}
use Rattle.turn_lock.proofs.Gathered.{popped, at_last_place, at_place, moved_on, lock_get, starts, goes_on, all_in}
use Rattle.turn_lock.proofs.passes.gather.Goals as goal

pub passes-init : goal.passes-init
passes-init g c =
    let q = c.unwrap-seat.result in
    let is : c.args.list.items ≡ c.pop.new.self.items ++ q ∷ [] = popped _ _ _ _ c.pop.ensures.items c.unwrap-seat.ensures in record {
      left = (q ∷ [], is);
      seat = lock_get _ _ _ q c.requires.each (at_last_place _ _ _ is);
      idle = q.idle;
      empty = q.empty;
      known = starts _ _ q is;
    }

pub join_seat-requires : goal.join_seat-requires
join_seat-requires g c = (
  c.passes.invariant.seat,
  lock_get _ _ _ c.in-Some.pass c.requires.each (at_place _ _ _ _ _ c.passes.invariant.left.1 c.in-Some.ensures.items),
  c.in-Some.pass.empty,
  c.requires.lock,
  joins g.V.Kept.fixed g.V.Kept.entries g.V.Kept.number _ _ _ _ _ _ _ c.passes.invariant.idle c.in-Some.pass.idle,
)

pub passes-preserved : goal.passes-preserved
passes-preserved g c =
    let i = c.passes.invariant in record {
      left = (c.in-Some.pass ∷ i.left.0, moved_on _ _ _ _ _ i.left.1 c.in-Some.ensures.items);
      seat = c.join_seat.ensures.0 ∙ i.seat;
      idle = stage_in _ _ _ _ c.join_seat.ensures.2;
      empty = slots_in _ _ _ c.join_seat.ensures.2 ∙ i.empty;
      known = goes_on _ _ _ _ c.in-Some.pass _ _ i.left.1 c.in-Some.ensures.items (view_in _ _ _ c.join_seat.ensures.2) i.known;
    }

pub returns-clause-seat : goal.returns-clause-seat
returns-clause-seat g c = (c.passes.invariant.seat, c.passes.invariant.idle, c.passes.invariant.empty)

pub returns-clause-all : goal.returns-clause-all
returns-clause-all g c =
    let none : length c.passes.list.items ≡ 0 = search rules in all_in _ _ _ none c.passes.invariant.known
