-- One more party, with the next number.
use Rattle.std.proofs.Common.{◌∙◌, ap, ◌++◌, [], ◌∷◌, map}
use Rattle.std.proofs.lemmas.List.Elements.{All-push, All-same}
use Rattle.session_script.specs.Scripts.{asked}
use Rattle.helper_main.specs.Parties.{number_of, IsPartyOf}
use Rattle.helper_main.proofs.Party.{numbered_next}
use Rattle.helper_main.proofs.parties.parties.Goals as goal

pub parties-preserved : goal.parties-preserved
parties-preserved c =
    let P = IsPartyOf c.args.script.now.params (asked c.args.script.now) in
    let more = c.in_ok-push.ensures.items in
    record {
      numbers = ap (map number_of) more ∙ numbered_next c.parties.parties.items c.in_ok-party.field-0 c.parties.before c.parties.invariant.numbers c.in_ok-party.ensures.number;
      all = All-same P _ (c.parties.parties.items ++ c.in_ok-party.field-0 ∷ []) more (All-push P c.parties.parties.items c.in_ok-party.field-0 c.parties.invariant.all c.in_ok-party.ensures.party);
    }
