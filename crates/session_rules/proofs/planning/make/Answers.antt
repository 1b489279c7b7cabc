-- A move that gives an instance up leaves as many as there were, and one that issues an instance raises loads.
use Rattle.std.proofs.Common.{◌≡◌, ◌∙◌, sym, ap, ◌^◌, ◌∷◌, [], ◌++◌, length, arith}
use Rattle.std.proofs.lemmas.Grind.{common_steps}
use Rattle.proto_names.specs.Instances.{after_void}
use Rattle.participants.specs.Loads.{loads_of}
use Rattle.session_rules.specs.StandIns.{behind}
use Rattle.session_rules.proofs.Stepwise.{void_length}
use Rattle.session_rules.proofs.Planned.{loads_at_most}
use Rattle.session_rules.proofs.StandIns.{loads_stand}
use Rattle.session_rules.proofs.planning.make.Goals as goal

pub of-requires : goal.of-requires
of-requires c =
    let is = c.args.instances.now.items in
    let now : c.as_slice-in-GiveUp.result.now ≡ after_void c.in-GiveUp.id c.in-GiveUp.by is = grind (arith, common_steps) in
    omega (arith, ap length now, void_length c.in-GiveUp.id c.in-GiveUp.by is, c.requires.few)

pub raise-requires : goal.raise-requires
raise-requires c = loads_at_most c.args.instances.now.items c.args.loads.now (2 ^ 30) (omega (arith, c.requires.few)) c.requires.loads

pub returns-in_ok-push-in-Issue-clause-loads : goal.returns-in_ok-push-in-Issue-clause-loads
returns-in_ok-push-in-Issue-clause-loads c =
    let is = c.args.instances.now.items in let n = c.args.issued.now in let i = c.in-Issue in
    let now : c.push.new.self.items ≡ is ++ behind n i.signature i.set i.round1 ∷ [] = grind (arith, common_steps) in
    c.raise.ensures ∙ loads_stand n is c.args.loads.now i.signature i.set i.round1 c.requires.loads ∙ ap loads_of (sym now)
