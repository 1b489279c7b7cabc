use Rattle.std.proofs.Common.{◌≡◌, ◌∙◌, sym, ap, subst, refl, ℕ, ◌+◌, ◌<◌, List, map, length, get_or, fold, arith}
use Rattle.std.specs.List.{range_with_len}
use Rattle.std.proofs.lemmas.Iterator.Adapters.{YieldsList-from_vec}
use Rattle.std.proofs.lemmas.Iterator.Consumers.{YieldsList-turn}
use Rattle.std.proofs.lemmas.List.{length_push, append-nil}
use Rattle.proto_names.specs.declared.instance.Instance.{Instance}
use Rattle.session_rules.specs.Issues.{instances_after}
use Rattle.session_state.specs.Issuings.{move_of, issued_by, issued, brief_of, sums_of, MayMove}
use Rattle.session_state.specs.declared.issuing.Step.{Step}
use Rattle.session_state.proofs.Steps.{ids_at, fresh_at, may_at, fold_step, put_behind, first_more, issued_length, issues_few, moves_length}
use Rattle.session_state.proofs.issuing.carry_out.Goals as goal

-- the step of this turn is the next one
turn : (c : goal.After-make-arg-1) → (length c.steps.yielded < length c.args.issuing.steps.items) × (c.in-Some.step ≡ get_or c.args.issuing.steps.items (length c.steps.yielded) c.in-Some.step)
turn c = YieldsList-turn (YieldsList-from_vec {s = c.into_iter-step-iterator.result} c.args.issuing.steps.items (cc) (cc)) c.steps.yielded c.steps.step-iterator c.steps.yielded_by c.next.result c.next.new.self c.in-Some.step c.in-Some.is c.next.ensures.steps

pub make-requires-clause-move_ : goal.make-requires-clause-move_
make-requires-clause-move_ c =
    let xs = c.args.issuing.steps.items in
    let i = c.steps.invariant in
    let t = turn c in
    let may = may_at c.args.table.now.instances.items xs (length c.steps.yielded) c.in-Some.step c.requires.moves t.0 t.1 in
    subst (λ (is : List Instance). MayMove is (move_of c.in-Some.step))
    (sym (i.instances ∙ ap (λ (ys : List Step). fold instances_after c.args.table.now.instances.items (map move_of ys)) i.first)) may

pub make-requires-clause-ids : goal.make-requires-clause-ids
make-requires-clause-ids c =
    let xs = c.args.issuing.steps.items in
    let x = c.in-Some.step in
    let i = c.steps.invariant in
    let t = turn c in
    let n = length c.args.table.now.instances.items in
    ids_at xs (n + 1) (length c.steps.yielded) x c.requires.ids t.0 t.1
    ∙ ap (λ (ys : List Step). range_with_len (n + 1 + length (issued ys)) (length (issued_by x))) (sym i.first)
    ∙ ap (λ (a : ℕ). range_with_len a (length (issued_by x))) (let e = i.count in omega arith)

pub make-requires-clause-fresh : goal.make-requires-clause-fresh
make-requires-clause-fresh c =
    let t = turn c in
    rw c.steps.invariant.ring (fresh_at c.args.table.now.params c.args.issuing.steps.items (length c.steps.yielded) c.in-Some.step c.requires.fresh t.0 t.1)

pub make-requires-clause-few : goal.make-requires-clause-few
make-requires-clause-few c =
    let t = turn c in
    let l = t.0 in
    let count = c.steps.invariant.count in
    let few = c.steps.invariant.few in
    let all = c.requires.few in
    omega arith

pub make-requires-clause-room : goal.make-requires-clause-room
make-requires-clause-room c =
    let t = turn c in
    let l = t.0 in
    let spare = c.steps.invariant.spare in
    let room = c.requires.room in
    omega arith

pub steps-preserved : goal.steps-preserved
steps-preserved c =
    let x = c.in-Some.step in
    let ys = c.steps.yielded in
    let i = c.steps.invariant in
    let by = c.make.ensures in
    let was = c.args.table.now in
    let now = c.steps.table in
    let later = c.make.new.table in
    let longer = length_push ys x in
    let t = turn c.before in
    record {
      can_next = tt;
      finite = tt;
      first = first_more c.args.issuing.steps.items ys x i.first t.0 t.1;
      instances = by.instances ∙ ap (λ (is : List Instance). instances_after is (move_of x)) i.instances ∙ sym (fold_step was.instances.items ys x);
      briefs = put_behind brief_of was.briefs.items now.briefs.items later.briefs.items ys x i.briefs by.briefs;
      sums = put_behind sums_of was.sums.items now.sums.items later.sums.items ys x i.sums by.sums;
      count =
          let n = i.count in
          let e = ap length by.instances ∙ moves_length now.instances.items x in
          omega (arith, issued_length ys x);
      few = let few = i.few in omega (arith, issued_length ys x, issues_few x);
      spare = let a = i.spare in let b = by.spare in omega arith;
      ring = by.ring ∙ i.ring;
    }

pub steps-init : goal.steps-init
unfolding issued
steps-init c = record {
  can_next = tt;
  finite = tt;
  first = refl;
  instances = refl;
  briefs = sym (append-nil c.args.table.now.briefs.items);
  sums = sym (append-nil c.args.table.now.sums.items);
  count = omega arith;
  few = omega arith;
  spare = omega arith;
  ring = refl;
}
