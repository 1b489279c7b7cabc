-- What a step makes of the instances.
use Rattle.std.proofs.Common.{◌≡◌, ◌∙◌, ap, subst, []}
use Rattle.std.specs.Prelude.{All}
use Rattle.std.proofs.lemmas.List.Elements.{All-head}
use Rattle.proto_names.specs.Roles.{last_place}
use Rattle.proto_names.specs.Instances.{with_fresh}
use Rattle.session_rules.specs.Issues.{instances_after}
use Rattle.session_state.specs.Issuings.{issued_by, IsFresh}
use Rattle.session_state.specs.declared.issuing.Step.{Step}
use Rattle.session_state.proofs.issuing.make.Goals as goal

pub returns-in-GivesUp-clause-instances : goal.returns-in-GivesUp-clause-instances
unfolding instances_after
returns-in-GivesUp-clause-instances c = rw c.in-GivesUp.is c.void.ensures.instances

pub returns-in-Issues-clause-instances : goal.returns-in-Issues-clause-instances
unfolding instances_after
returns-in-Issues-clause-instances c =
    let x = c.in-Issues.fresh in
    let fresh = subst (λ (z : Step). All (IsFresh c.args.table.now.params) (issued_by z)) c.in-Issues.is c.requires.fresh in
    let one = All-head (IsFresh c.args.table.now.params) x [] fresh in
    let place : last_place x.brief.value.groups.value ≡ 0 = ap last_place one.groups in
    rw c.in-Issues.is (c.issue.ensures.instances ∙ ap (with_fresh c.args.table.now.instances.items x.signature x.brief.value.set x.brief.value.round1) place)
