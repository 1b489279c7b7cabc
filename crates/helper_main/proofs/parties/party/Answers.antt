-- The party has the values of its own inputs.
use Rattle.std.proofs.Common.{refl, length}
use Rattle.session_script.specs.Scripts.{asked}
use Rattle.helper_main.proofs.Inputs.{own_streams}
use Rattle.helper_main.proofs.Party.{party_made}
use Rattle.helper_main.proofs.parties.party.Goals as goal

pub from_joint-requires-clause-streams : goal.from_joint-requires-clause-streams
from_joint-requires-clause-streams c =
    let a = asked c.args.script.now in
    own_streams a c.args.p (length a.circuits) 0 c.in_ok-values.values c.requires.accepted c.in_ok-values.ensures

pub returns-clause-party : goal.returns-clause-party
returns-clause-party c =
    party_made (asked c.args.script.now) c.args.ring.now.params c.args.script.now.params c.args.p c.args.joint.now.roll.master c.in_ok-values.values c.from_joint.result
    c.requires.ring refl c.requires.roll c.in_ok-values.ensures c.from_joint.ensures.params c.from_joint.ensures.public c.from_joint.ensures.seeds c.from_joint.ensures.number c.from_joint.ensures.values
