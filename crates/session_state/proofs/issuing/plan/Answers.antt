use Rattle.std.proofs.Common.{◌≡◌, ◌∙◌, sym, ap, subst, ℕ, ◌<◌, [], length, get_or, arith}
use Rattle.std.specs.List.{range_with_len}
use Rattle.instance_table.proofs.Lives.{live_few}
use Rattle.session_rules.specs.States.{seen}
use Rattle.session_rules.specs.Issues.{most_moves}
use Rattle.session_rules.specs.declared.moves.Move.{Move}
use Rattle.session_state.specs.Issuings.{issued_by, issued, store_of}
use Rattle.session_state.proofs.Planned.{IsDue, few_moves, due_at}
use Rattle.session_state.proofs.Steps.{made_none, made_more, issued_length, issues_few}
use Rattle.session_state.proofs.issuing.plan.Goals as goal

-- the move of this turn
due : (c : goal.After-planned-arg-1) → IsDue c.args.source.now.instances c.args.states.now c.index.result.now
due c =
    let ms = c.in_ok-moves.moves.items in
    let a = c.requires.instances in
    let l : c.moves.place < length ms = omega arith in
    let at = due_at c.args.source.now.instances c.args.rules.now (seen c.args.present.now.bits a.all [] c.args.states.now) ms c.moves.place c.index.result.now (c.in_ok-moves.ensures a.all a.alive a.number) a.firsts l in
    subst (λ (m : Move). IsDue c.args.source.now.instances c.args.states.now m) (sym c.index.ensures) at

pub planned_moves-requires-clause-few_live : goal.planned_moves-requires-clause-few_live
unfolding most_moves
planned_moves-requires-clause-few_live c =
    let a = c.requires.instances in
    let keys = ap length c.requires.keys in
    let room = c.requires.room in
    let live = ap length a.alive in
    let number = a.number in
    omega (arith, live_few a.all)

pub planned_moves-requires-clause-few_issued : goal.planned_moves-requires-clause-few_issued
unfolding most_moves
planned_moves-requires-clause-few_issued c =
    let keys = ap length c.requires.keys in
    let room = c.requires.room in
    omega arith

pub planned-requires-clause-output : goal.planned-requires-clause-output
planned-requires-clause-output c = λ k e. c.requires.outputs k ((due c).evaluated k e)

pub planned-requires-clause-stands : goal.planned-requires-clause-stands
planned-requires-clause-stands c = λ k e. (due c).follows k e

pub returns-clause-few : goal.returns-clause-few
returns-clause-few c =
    let a = c.requires.instances in
    let few = few_moves c.args.rules.now (seen c.args.present.now.bits a.all [] c.args.states.now) c.in_ok-moves.moves.items (c.in_ok-moves.ensures a.all a.alive a.number) in
    omega arith

pub moves-init : goal.moves-init
unfolding issued
moves-init c = record {
  made = rw c.in_ok-steps.ensures.items (made_none c.args.ring.now.params (store_of c.args.source.now) c.args.count c.in_ok-moves.moves.items);
  next = rw c.in_ok-steps.ensures.items (omega arith);
}

pub overflow_add-id-in-moves : goal.overflow_add-id-in-moves
overflow_add-id-in-moves c =
    let made = c.moves.invariant.made in
    let next = c.moves.invariant.next in
    let few = made.few in
    let one = issues_few c.in_ok-step.step in
    let issued_now = c.issued-id.ensures in
    let room = c.requires.room in
    let below = c.moves-test.true in
    let a = c.requires.instances in
    let all = few_moves c.args.rules.now (seen c.args.present.now.bits a.all [] c.args.states.now) c.in_ok-moves.moves.items (c.in_ok-moves.ensures a.all a.alive a.number) in
    let n : c.moves.place < length c.in_ok-moves.moves.items = omega arith in
    omega arith

pub moves-preserved : goal.moves-preserved
moves-preserved c =
    let x = c.in_ok-step.step in
    let xs = c.moves.steps.items in
    let ms = c.in_ok-moves.moves.items in
    let by = c.in_ok-step.ensures in
    let before = c.args.count in
    let next = c.moves.invariant.next in
    let l : c.moves.place < length ms = let below = c.moves-test.true in omega arith in
    record {
      made = rw c.in_ok-push.ensures.items (made_more c.args.ring.now.params (store_of c.args.source.now) before c.moves.place ms xs x c.moves.invariant.made l
          (subst (λ (m : Move). m ≡ get_or ms c.moves.place m) (sym by.move_) c.index.ensures)
          (by.id ∙ ap (λ (a : ℕ). range_with_len a (length (issued_by x))) next)
          by.polys by.fresh);
      next = rw c.in_ok-push.ensures.items (let n = c.issued-id.ensures in omega (arith, issued_length xs x));
    }
