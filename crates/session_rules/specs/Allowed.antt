-- What is known where something is done: which call asks for it, what is replied, and how the state was.
use Rattle.std.specs.Prelude.{◌≡◌, ℕ, true, false, Some, ⊤}
use Rattle.std.specs.List.{slice_index_or}
use Rattle.share_spec.specs.Sets.{has}
use Rattle.proto_names.specs.Names.{rows_of}
use Rattle.proto_names.specs.declared.signature.Signature.TheVariants.{Pk}
use Rattle.proto_names.specs.declared.instance.Instance.{Instance}
use Rattle.session_rules.specs.declared.call.Call.{Call}
use Rattle.session_rules.specs.declared.call.Call.TheVariants as call
use Rattle.session_rules.specs.declared.reply.Reply.{Reply}
use Rattle.session_rules.specs.declared.reply.Reply.TheVariants as reply
use Rattle.session_rules.specs.declared.deed.Deed.{Deed}
use Rattle.session_rules.specs.declared.deed.Deed.TheVariants.{Nothing, Joins, Loses, Counts, Gives, Turns}
use Rattle.session_rules.specs.declared.state.CircuitState.{CircuitState}
use Rattle.session_rules.specs.declared.state.CircuitState.TheVariants.{Refused, Idle, Taken, Evaluated, Answered}
use Rattle.session_rules.specs.declared.fixed.Fixed.{Fixed}
use Rattle.session_rules.specs.States.{State, plan, circuit, is_given, has_done}
use Rattle.session_rules.specs.Steps.{counted, is_input, next_ready, judge}
use Rattle.session_rules.specs.Facts.{accepts, TakesPart}

-- a party is there from now on, which wasn't; it is lost, which was there
pub record IsJoined (s : State) (c : Call) (r : Reply) (p : ℕ) : Type 0 where
  pub call : c ≡ call.Join p
  pub reply : r ≡ reply.Joined
  pub absent : has s.present p ≡ false

pub record IsLost (s : State) (c : Call) (r : Reply) (p : ℕ) : Type 0 where
  pub call : c ≡ call.Lose p
  pub reply : r ≡ reply.Left
  pub there : has s.present p ≡ true

-- a share is counted: by a party of an instance that isn't void, which hasn't sent, and as long as it has to be
pub record IsCounted (f : Fixed) (s : State) (c : Call) (r : Reply) (i : Instance) (p : ℕ) : Type 0 where
  pub id : ℕ
  pub call : c ≡ call.Deliver id p (rows_of i.signature f.rows)
  pub reply : r ≡ counted p i
  pub part : TakesPart s id p i
  pub unsent : has i.sent.bits p ≡ false

-- an input of an admitted circuit is given, once there is a public key, by an owner who is there
pub record IsBrought (f : Fixed) (s : State) (c : Call) (r : Reply) (d k : ℕ) : Type 0 where
  pub call : c ≡ call.Input d k
  pub reply : r ≡ reply.Given
  pub input : is_input f d k ≡ true
  pub key : has_done Pk s.instances ≡ true
  pub owner : has s.present (slice_index_or (plan f d).owners k 0) ≡ true
  pub missing : is_given s d k ≡ false

-- the first circuit that is ready is taken by the caller
pub record IsTaken (f : Fixed) (s : State) (caller : ℕ) (c : Call) (r : Reply) (d its : ℕ) : Type 0 where
  pub call : c ≡ call.Take
  pub reply : r ≡ reply.Job d
  pub next : next_ready f s ≡ Some d
  pub who : its ≡ caller

-- one that the caller has taken is evaluated, or given back
pub record IsLeft (s : State) (caller d : ℕ) (c its : Call) (r says : Reply) : Type 0 where
  pub call : c ≡ its
  pub reply : r ≡ says
  pub taken : circuit s.circuits d ≡ Taken caller

abbrev pub MayTurn : Fixed → State → ℕ → Call → Reply → ℕ → CircuitState → Type 0
MayTurn f s caller c r d (Refused place bound limit) = ⊥
MayTurn f s caller c r d Idle = IsLeft s caller d c (call.GiveBack d) r reply.Returned
MayTurn f s caller c r d (Taken who) = IsTaken f s caller c r d who
MayTurn f s caller c r d Evaluated = IsLeft s caller d c (call.Finish d) r reply.Finished
MayTurn f s caller c r d Answered = ⊥

-- a list answers one who asks what is pending, and a brief one who asks for it
abbrev pub Answers : Reply → Call → Type 0
Answers (reply.List ids inputs) c = (p : ℕ) × (c ≡ call.Pending p)
Answers (reply.Brief signature set) c = (id : ℕ) × (c ≡ call.Brief id)
Answers other c = ⊤

-- a call of a caller with a reply: where nothing is done, the reply refuses or answers
abbrev pub Allows : Fixed → State → ℕ → Call → Reply → Deed → Type 0
Allows f s caller c r Nothing = (accepts r ≡ false) × Answers r c
Allows f s caller c r (Joins p) = IsJoined s c r p
Allows f s caller c r (Loses p) = IsLost s c r p
Allows f s caller c r (Counts i p) = IsCounted f s c r i p
Allows f s caller c r (Gives d k) = IsBrought f s c r d k
Allows f s caller c r (Turns d now) = MayTurn f s caller c r d now

-- ---- the law

abbrev pub DeedsAreAllowed : Type 0
DeedsAreAllowed = (f : Fixed) (s : State) (caller : ℕ) (c : Call) → Allows f s caller c (judge f s caller c).reply (judge f s caller c).deed
