-- Each step makes the next move; where there is none, all were made.
use Rattle.std.proofs.Common.{◌≡◌, ◌+◌, [], ◌∷◌, ◌++◌, length, ap, ◌∙◌, arith}
use Rattle.std.specs.Prelude.{None, Some}
use Rattle.std.proofs.lemmas.Grind.{common_steps}
use Rattle.session_rules.specs.States.{seen}
use Rattle.session_rules.specs.Issues.{next_move, most_moves, moves, moves_in}
use Rattle.session_rules.specs.StandIns.{stand_after, number_after}
use Rattle.session_rules.proofs.StandIns.{Planning-start, Planning-ends, Planning-next, Planning-all, stand_longer, number_more}
use Rattle.session_rules.proofs.planning.planned_moves.Goals as goal

pub steps-init : goal.steps-init
steps-init c =
    let none : c.new-made.result.items ≡ [] = grind (arith, common_steps) in
    record {
      few = omega arith;
      few_issued = omega arith;
      loads = cc;
      moves = λ all live number. rw none
          (Planning-start c.args.fixed.now c.args.present.now.bits c.args.circuits.now all (length c.args.needed.now + length c.args.circuits.now + 2) c.args.issued c.args.live.items live number);
    }

pub returns-in-None : goal.returns-in-None
unfolding most_moves moves
returns-in-None c = λ all live number.
    let f = c.args.fixed.now in let p = c.args.present.now.bits in let cs = c.args.circuits.now in
    let is = c.steps.instances.items in let most = length c.args.needed.now + length cs + 2 in
    let last : next_move f (seen p is [] cs) ≡ None = cc in
    let n : most ≡ most_moves f = cc in
    Planning-ends f p cs all most c.steps.counter c.steps.number is c.steps.made.items (c.steps.invariant.moves all live number) last
    ∙ ap (λ z. moves_in z f (seen p all [] cs)) n

pub steps-preserved : goal.steps-preserved
steps-preserved c =
    let f = c.args.fixed.now in let p = c.args.present.now.bits in let cs = c.args.circuits.now in
    let is = c.steps.instances.items in let issued = c.steps.number in let most = length c.args.needed.now + length cs + 2 in
    let m = c.in-Some.next in
    let next : next_move f (seen p is [] cs) ≡ Some m = cc in
    let there : c.make.new.instances.items ≡ stand_after issued is m = grind (arith, common_steps) in
    let many : c.make.new.issued ≡ number_after issued m = grind (arith, common_steps) in
    let made : c.push.new.self.items ≡ c.steps.made.items ++ m ∷ [] = grind (arith, common_steps) in
    record {
      few = omega (arith, ap length there, stand_longer issued is m, c.steps.invariant.few);
      few_issued = omega (arith, many, number_more issued m, c.steps.invariant.few_issued);
      loads = grind (arith, common_steps);
      moves = λ all live number. rw (there, many, made)
          (Planning-next f p cs all most c.steps.counter issued is c.steps.made.items m (c.steps.invariant.moves all live number) (omega arith) next);
    }

pub returns : goal.returns
unfolding most_moves moves
returns c = λ all live number.
    let f = c.args.fixed.now in let p = c.args.present.now.bits in let cs = c.args.circuits.now in
    let most = length c.args.needed.now + length cs + 2 in
    let n : most ≡ most_moves f = cc in
    let last : c.steps.counter ≡ most = omega arith in
    let so = c.steps.invariant.moves all live number in
    Planning-all f p cs all most c.steps.number c.steps.instances.items c.steps.made.items (rw last at so)
    ∙ ap (λ z. moves_in z f (seen p all [] cs)) n
