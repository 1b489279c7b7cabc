-- The sums keep their number of rows, and fit.
use Rattle.std.proofs.Common.{◌≡◌, [], get_or, ap, ◌∙◌, arith, length-set}
use Rattle.std.proofs.lemmas.List.{get_or_default}
use Rattle.std.proofs.Math.Seq.{map-set_same}
use Rattle.std.proofs.lemmas.List.Elements.{All-set}
use Rattle.std.specs.Prelude.{All}
use Rattle.ring_spec.specs.Ring.{IsPoly}
use Rattle.instance_table.specs.Tables.{row_count}
use Rattle.instance_table.proofs.table.Table.add_rows_of.Goals as goal

pub invariant_of-self : goal.invariant_of-self
invariant_of-self c =
    let t = c.args.self.now in let k = c.place_of.result in let new = c.add_rows.new.sums in
    let was : c.index_mut.result.now ≡ get_or t.sums.items k [] =
    c.index_mut.ensures.value ∙ get_or_default t.sums.items k c.index_mut.result.now [] (omega arith) in
    record {
      few = t.few;
      numbered = t.numbered;
      briefed = t.briefed;
      rows = map-set_same row_count t.sums.items k new [] (c.add_rows.ensures.number ∙ ap row_count was) ∙ t.rows;
      fits = All-set (All (IsPoly t.params.q t.params.n)) t.sums.items k new (rw (← c.requires.ring) c.add_rows.ensures.fits) t.fits;
      alive = t.alive;
      counted = t.counted;
      room_for_instances = t.room_for_instances;
      room_for_briefs = t.room_for_briefs;
      room_for_sums = omega (arith, t.room_for_sums, length-set t.sums.items k new);
      room_for_live = t.room_for_live;
      room_for_attempts = t.room_for_attempts;
    }
