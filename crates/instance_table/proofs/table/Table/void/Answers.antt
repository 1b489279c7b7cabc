-- The instance keeps its role, and is left out of those that aren't void.
use Rattle.std.proofs.Common.{◌≡◌, map, ap, sym, ◌∙◌, arith}
use Rattle.std.specs.Prelude.{filter}
use Rattle.proto_names.specs.Instances.{after_void}
use Rattle.proto_names.specs.Roles.{role_of}
use Rattle.participants.specs.Live.{live_ones}
use Rattle.instance_table.specs.Lists.{is_other}
use Rattle.instance_table.proofs.Roles.{void_roles, ids_kept, row_counts_kept, number_kept, attempts_kept}
use Rattle.instance_table.proofs.Lives.{live_void}
use Rattle.instance_table.proofs.table.Table.void.Goals as goal

pub invariant_of-self : goal.invariant_of-self
invariant_of-self c =
    let t = c.args.self.now in let is = t.instances.items in
    let js = c.void.new.instances.items in
    let items : js ≡ after_void c.args.id c.args.by is = c.void.ensures.items in
    let roles : map role_of js ≡ map role_of is = ap (map role_of) items ∙ void_roles c.args.id c.args.by is in
    let number = number_kept is js roles in
    record {
      few = rw number t.few;
      numbered = ids_kept is js roles ∙ rw number t.numbered;
      briefed = t.briefed ∙ sym roles;
      rows = t.rows ∙ sym (row_counts_kept t.params is js roles);
      fits = t.fits;
      alive = c.leave_out.ensures.items ∙ ap (filter (is_other c.args.id)) t.alive ∙ sym (live_void c.args.id c.args.by is) ∙ ap live_ones (sym items);
      counted = λ σ. t.counted σ ∙ sym (attempts_kept σ is js roles);
      room_for_instances = omega (arith, t.room_for_instances, c.void.ensures.len, c.void.ensures.capacity);
      room_for_briefs = t.room_for_briefs;
      room_for_sums = t.room_for_sums;
      room_for_live = omega (arith, t.room_for_live, c.leave_out.ensures.len, c.leave_out.ensures.capacity);
      room_for_attempts = t.room_for_attempts;
    }
