-- The instance keeps its role, and stands as before.
use Rattle.std.proofs.Common.{◌≡◌, map, ap, sym, ◌∙◌, arith}
use Rattle.proto_names.specs.Instances.{after_share, counted_at}
use Rattle.proto_names.specs.Roles.{role_of}
use Rattle.participants.specs.Live.{live_ones}
use Rattle.instance_table.proofs.Roles.{share_roles, ids_kept, row_counts_kept, number_kept, attempts_kept}
use Rattle.instance_table.proofs.Lives.{live_counted}
use Rattle.instance_table.proofs.table.Table.mark.Goals as goal

pub invariant_of-self : goal.invariant_of-self
invariant_of-self c =
    let t = c.args.self.now in let is = t.instances.items in
    let js = c.mark.new.instances.items in
    let items : js ≡ after_share c.args.id c.args.p is = c.mark.ensures.items in
    let roles : map role_of js ≡ map role_of is = ap (map role_of) items ∙ share_roles c.args.id c.args.p is in
    let number = number_kept is js roles in
    record {
      few = rw number t.few;
      numbered = ids_kept is js roles ∙ rw number t.numbered;
      briefed = t.briefed ∙ sym roles;
      rows = t.rows ∙ sym (row_counts_kept t.params is js roles);
      fits = t.fits;
      alive = c.count_share.ensures.items ∙ ap (map (counted_at c.args.id c.args.p)) t.alive ∙ sym (live_counted is c.args.id c.args.p t.numbered c.requires) ∙ ap live_ones (sym items);
      counted = λ σ. t.counted σ ∙ sym (attempts_kept σ is js roles);
      room_for_instances = omega (arith, t.room_for_instances, c.mark.ensures.len, c.mark.ensures.capacity);
      room_for_briefs = t.room_for_briefs;
      room_for_sums = t.room_for_sums;
      room_for_live = omega (arith, t.room_for_live, c.count_share.ensures.len, c.count_share.ensures.capacity);
      room_for_attempts = t.room_for_attempts;
    }
