-- The new instance has the next number, and the role that its brief tells; it is one more of its signature,
-- and stands behind those that aren't void.
use Rattle.std.proofs.Common.{◌≡◌, ◌+◌, List, [], ◌∷◌, ◌++◌, length, ap, sym, ◌∙◌, arith}
use Rattle.std.specs.Prelude.{All}
use Rattle.std.proofs.lemmas.List.Elements.{All-push}
use Rattle.ring_spec.specs.Ring.{IsPoly}
use Rattle.proto_names.specs.Instances.{fresh}
use Rattle.proto_names.specs.Roles.{Role, role_of, last_place}
use Rattle.instance_table.specs.Tables.{role_told, row_count, row_counts}
use Rattle.proto_names.specs.declared.instance.Instance.{Instance}
use Rattle.participants.specs.Live.{is_live, live_ones}
use Rattle.instance_table.proofs.Lives.{live_push}
use Rattle.instance_table.proofs.Issued.{fresh_lives, attempts_push, length_push, ids_push, role_fresh, maps_push, no_sums-number, no_sums-fits}
use Rattle.instance_table.proofs.table.Table.issue.Goals as goal

pub invariant_of-self : goal.invariant_of-self
invariant_of-self c =
    let t = c.args.self.now in let p = t.params in let σ = c.args.signature in
    let is = t.instances.items in let bs = t.briefs.items in let ss = t.sums.items in
    let i = c.opened-instance.result in let b = c.args.brief in let s = c.args.sums in
    let made = c.opened-instance.ensures is (omega arith) (omega (arith, c.count_attempt-attempt.ensures.value, t.counted σ)) in
    let new : i ≡ fresh is σ b.value.set b.value.round1 (last_place b.value.groups.value) = cc in
    let told : role_told b ≡ role_of i = role_fresh is σ b c.requires.id c.requires.signature ∙ ap role_of (sym new) in
    let at : i.id ≡ length is + 1 = ap (λ (r : Role). r.id) (sym told) ∙ c.requires.id in
    let of : i.signature ≡ σ = ap (λ (r : Role). r.signature) (sym told) ∙ c.requires.signature in
    let counts : row_count s ≡ row_counts p i = ap row_count c.requires.zeros ∙ rw of (no_sums-number p σ) in
    let fit : All (IsPoly p.q p.n) s = rw c.requires.zeros (no_sums-fits p σ (omega arith)) in
    record {
      few = rw (c.push_reserved.ensures.items, length_push is i) (omega arith);
      numbered = rw c.push_reserved.ensures.items (ids_push is i at t.numbered);
      briefed = rw (c.push_reserved.ensures.items, c.push_reserved-3.ensures.items) (maps_push role_told role_of bs is b i t.briefed told);
      rows = rw (c.push_reserved.ensures.items, c.push_reserved-4.ensures.items) (maps_push row_count (row_counts p) ss is s i t.rows counts);
      fits = rw c.push_reserved-4.ensures.items (All-push (All (IsPoly p.q p.n)) ss s t.fits fit);
      alive =
          c.push_reserved-2.ensures.items ∙ ap (λ (xs : List Instance). xs ++ i ∷ []) t.alive
          ∙ sym (live_push is i (ap is_live new ∙ fresh_lives is σ b.value.set b.value.round1 (last_place b.value.groups.value)))
          ∙ ap live_ones (sym c.push_reserved.ensures.items);
      counted = λ τ.
          rw c.push_reserved.ensures.items
          (attempts_push σ τ is i t.attempts.items c.count_attempt-attempt.new.attempts.items of (t.counted τ) (c.count_attempt-attempt.ensures.attempts τ));
      room_for_instances = omega (arith, t.room_for_instances, c.requires.room);
      room_for_briefs = omega (arith, t.room_for_briefs, c.requires.room);
      room_for_sums = omega (arith, t.room_for_sums, c.requires.room);
      room_for_live = omega (arith, t.room_for_live, c.requires.room);
      room_for_attempts = omega (arith, t.room_for_attempts, c.count_attempt-attempt.ensures.len, c.count_attempt-attempt.ensures.capacity, c.requires.room);
    }
