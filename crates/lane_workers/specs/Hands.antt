-- What a lane has in hand: the brief from which a party makes its share whenever it is to give one.
use Rattle.std.specs.Prelude.{◌≡◌, ℕ, true, Option, Some, IfSome}
use Rattle.std.specs.Option.{option_map}
use Rattle.proto_names.specs.Instances.{instance}
use Rattle.proto_names.specs.declared.instance.Instance.{Instance}
use Rattle.instance_table.specs.Tables.{brief_role}
use Rattle.instance_table.specs.declared.brief.Brief.{Brief}
use Rattle.party_roll.specs.Briefs.{IsBrief}
use Rattle.session_rules.specs.declared.fixed.Fixed.{Fixed}
use Rattle.session_rules.specs.States.{State}
use Rattle.session_rules.specs.Tasks.{Held, share_for}
use Rattle.session_spec.specs.Shares.{share_rows}
use Rattle.session_spec.specs.Outputs.{keys_in, share_of}
use Rattle.session_core.specs.Sessions.{Known, IsParty}
use Rattle.lane_workers.specs.declared.holding.Holding.{Holding}

-- the share that the party makes from the brief, as the rules tell it
abbrev pub held : Fixed → Holding → Held
held f h = share_for f.rows h.p h.brief.value.id h.brief.value.signature

abbrev pub in_hand : Fixed → Option Holding → Option Held
in_hand f hand = option_map (held f) hand

-- a party has a brief of an instance that was issued, from which it can make its share; and where the seeds are told,
-- that is the honest one
pub record CanBring (k : Known) (s : State) (p : ℕ) (brief : Brief) : Type 0 where
  pub made : IsBrief k.params brief
  pub item : Instance
  pub issued : instance s.instances brief.id ≡ Some item
  pub signature : brief.signature ≡ item.signature
  pub honest : k.tells ≡ true
      → share_rows k.setting k.seeds (brief_role brief) brief.polys p
      ≡ share_of k.setting k.seeds (keys_in k.setting k.seeds s.instances) item p

-- one of the session's parties holds such a brief
pub record IsHeld (k : Known) (s : State) (h : Holding) : Type 0 where
  pub party : IsParty k.params.parties h.p
  pub brings : CanBring k s h.p h.brief.value

-- nothing is in hand, or such a brief
abbrev pub HandFits : Known → State → Option Holding → Type 0
HandFits k s hand = IfSome hand (IsHeld k s)
