-- The instances keep their roles, and those that are given up are left out of those that aren't void.
use Rattle.std.proofs.Common.{◌≡◌, map, ap, sym, ◌∙◌, arith}
use Rattle.std.specs.Prelude.{filter}
use Rattle.proto_names.specs.Instances.{after_lost}
use Rattle.proto_names.specs.Roles.{role_of}
use Rattle.participants.specs.Live.{live_ones}
use Rattle.instance_table.specs.Lists.{keeps}
use Rattle.instance_table.proofs.Roles.{lost_roles, ids_kept, row_counts_kept, number_kept, attempts_kept}
use Rattle.instance_table.proofs.Lives.{live_lost}
use Rattle.instance_table.proofs.table.Table.lose.Goals as goal

pub invariant_of-self : goal.invariant_of-self
invariant_of-self c =
    let t = c.args.self.now in let is = t.instances.items in
    let js = c.lose.new.instances.items in
    let items : js ≡ after_lost c.args.p is = c.lose.ensures.items in
    let roles : map role_of js ≡ map role_of is = ap (map role_of) items ∙ lost_roles c.args.p is in
    let number = number_kept is js roles in
    record {
      few = rw number t.few;
      numbered = ids_kept is js roles ∙ rw number t.numbered;
      briefed = t.briefed ∙ sym roles;
      rows = t.rows ∙ sym (row_counts_kept t.params is js roles);
      fits = t.fits;
      alive = c.leave_out_lost.ensures.items ∙ ap (filter (keeps c.args.p)) t.alive ∙ sym (live_lost c.args.p is) ∙ ap live_ones (sym items);
      counted = λ σ. t.counted σ ∙ sym (attempts_kept σ is js roles);
      room_for_instances = omega (arith, t.room_for_instances, c.lose.ensures.len, c.lose.ensures.capacity);
      room_for_briefs = t.room_for_briefs;
      room_for_sums = t.room_for_sums;
      room_for_live = omega (arith, t.room_for_live, c.leave_out_lost.ensures.len, c.leave_out_lost.ensures.capacity);
      room_for_attempts = t.room_for_attempts;
    }
