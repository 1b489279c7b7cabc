-- What holds of the rules, whatever is called.
use Rattle.std.specs.Prelude.{◌≡◌, ◌≢◌, ℕ, ◌+◌, ◌*◌, ◌^◌, ◌<◌, ◌≤◌, Bool, true, false, ◌||◌, List, [], ◌∷◌, ◌++◌, length, Some, None, ⊤, ◌↔◌}
use Rattle.std.specs.List.{slice_index_or, Contains, fold}
use Rattle.share_spec.specs.Sets.{has, count}
use Rattle.proto_names.specs.Names.{is_void, rows_of}
use Rattle.proto_names.specs.Groups.{number_outside}
use Rattle.proto_names.specs.Instances.{instance}
use Rattle.noise_ledger.specs.declared.over.Place.{Place}
use Rattle.proto_names.specs.declared.signature.Signature.{Signature}
use Rattle.proto_names.specs.declared.signature.Signature.TheVariants.{Rlk1, Rlk2, Dec}
use Rattle.proto_names.specs.declared.instance.Instance.{Instance}
use Rattle.proto_names.specs.declared.instance.Stage.TheVariants.{Opened, Complete, Void}
use Rattle.session_rules.specs.declared.state.CircuitState.{CircuitState}
use Rattle.session_rules.specs.declared.state.CircuitState.TheVariants.{Refused, Idle, Taken, Evaluated, Answered}
use Rattle.session_rules.specs.declared.fixed.Fixed.{Fixed}
use Rattle.session_rules.specs.declared.call.Call.{Call}
use Rattle.session_rules.specs.declared.call.Call.TheVariants as call
use Rattle.session_rules.specs.declared.call.Entry.{Entry}
use Rattle.session_rules.specs.declared.reply.Reply.{Reply}
use Rattle.session_rules.specs.declared.reply.Reply.TheVariants as reply
use Rattle.session_rules.specs.declared.reply.Reply.TheVariants.{Joined, Left, Counted, Completed, Given, Job, Finished, Returned}
use Rattle.session_rules.specs.States.{State, threshold_at, plan, circuit, is_given, is_refused, is_evaluated, is_answered, has_done}
use Rattle.session_rules.specs.declared.deed.Deed.TheVariants.{Nothing, Counts}
use Rattle.session_rules.specs.Issues.{next_move, instances_after, moves, most_moves, issue}
use Rattle.session_rules.specs.Deeds.{done}
use Rattle.session_rules.specs.Steps.{says, does, counted, deliver, judge, step}
use Rattle.session_rules.specs.Histories.{after, state_after, IsLegal}

-- ---- calls

-- who joins has a number up to 32; and so in a list of calls
abbrev pub JoinsParty : Call → Type 0
JoinsParty (call.Join p) = p ≤ 32
JoinsParty _ = ⊤

abbrev pub JoinParties : List Entry → Type 0
JoinParties [] = ⊤
JoinParties (e ∷ es) = JoinsParty e.call × JoinParties es

-- ---- refusals

-- whether a call with this reply changes the state
abbrev pub accepts : Reply → Bool
accepts Joined = true
accepts Left = true
accepts (Counted missing) = true
accepts Completed = true
accepts Given = true
accepts (Job circuit) = true
accepts Finished = true
accepts Returned = true
accepts _ = false

-- ---- what holds in every state that calls lead to

-- an instance that is opened or complete
abbrev pub IsLive : Instance → Type 0
IsLive i = is_void i.stage ≡ false

-- an instance by itself: it has as many parties as the threshold of its group; those that sent are among them; it
-- is complete where they all did; and those that an opened one waits for are present
pub record IsSound (f : Fixed) (present : ℕ) (i : Instance) : Type 0 where
  pub set : i.set.bits < 2 ^ 32
  pub parties : count i.set.bits ≡ threshold_at f i.group
  pub sent : i.sent.bits < 2 ^ 32
  pub senders : (p : ℕ) → has i.sent.bits p ≡ true → has i.set.bits p ≡ true
  pub complete : i.stage ≡ Complete → number_outside i.set.bits i.sent.bits ≡ 0
  pub opened : 1 ≤ threshold_at f i.group → i.stage ≡ Opened → 1 ≤ number_outside i.set.bits i.sent.bits
  pub awaited : i.stage ≡ Opened → (p : ℕ) → has i.set.bits p ≡ true → has i.sent.bits p ≡ false → has present p ≡ true

-- a circuit that is evaluated, whether or not it is answered
abbrev pub is_settled : CircuitState → Bool
is_settled now = is_evaluated now || is_answered now

-- the circuit of a decryption is evaluated, and answered once the decryption is complete; where the decryption is void
-- it is one of both
pub record Decrypts (circuits : List CircuitState) (i : Instance) : Type 0 where
  pub opened : (c : ℕ) → i.signature ≡ Dec c → i.stage ≡ Opened → circuit circuits c ≡ Evaluated
  pub complete : (c : ℕ) → i.signature ≡ Dec c → i.stage ≡ Complete → circuit circuits c ≡ Answered
  pub settled : (c : ℕ) → i.signature ≡ Dec c → is_settled (circuit circuits c) ≡ true

-- the first round of a second round is complete, and of the same parties
pub record HasFirst (is : List Instance) (second : Instance) : Type 0 where
  pub first : Instance
  pub issued : Contains is first
  pub signature : first.signature ≡ Rlk1
  pub complete : first.stage ≡ Complete
  pub id : first.id ≡ second.round1
  pub set : first.set ≡ second.set

-- the instance at place k has number k + 1
abbrev pub Numbered : List Instance → Type 0
Numbered is = (k : ℕ) (d : Instance) → k < length is → (slice_index_or is k d).id ≡ k + 1

-- of each signature at most one instance is opened or complete
abbrev pub OneLives : List Instance → Type 0
OneLives is = (i j : Instance) → Contains is i → Contains is j → i.signature ≡ j.signature → IsLive i → IsLive j → i.id ≡ j.id

pub record Kept (f : Fixed) (s : State) : Type 0 where
  pub circuits : length s.circuits ≡ length f.plans
  pub given : length s.given ≡ length f.plans
  pub numbered : Numbered s.instances
  pub one : OneLives s.instances
  pub sound : (i : Instance) → Contains s.instances i → IsSound f s.present i
  pub decrypts : (i : Instance) → Contains s.instances i → Decrypts s.circuits i
  pub rounds : (i : Instance) → Contains s.instances i → i.signature ≡ Rlk2 → IsLive i → HasFirst s.instances i

-- ---- what never changes

-- an instance, and the same one later
pub record IsSameLater (before now : Instance) : Type 0 where
  pub id : now.id ≡ before.id
  pub signature : now.signature ≡ before.signature
  pub set : now.set ≡ before.set
  pub attempt : now.attempt ≡ before.attempt
  pub round1 : now.round1 ≡ before.round1
  pub group : now.group ≡ before.group
  pub sent : (p : ℕ) → has before.sent.bits p ≡ true → has now.sent.bits p ≡ true
  pub closed : before.stage ≢ Opened → now.sent ≡ before.sent
  pub opened : now.stage ≡ Opened → before.stage ≡ Opened
  pub void : (by : ℕ) → before.stage ≡ Void by → now.stage ≡ Void by
  pub complete : before.signature ≢ Rlk1 → before.stage ≡ Complete → now.stage ≡ Complete

-- a circuit that is taken, evaluated or answered
abbrev pub is_begun : CircuitState → Bool
is_begun (Refused place bound limit) = false
is_begun Idle = false
is_begun (Taken caller) = true
is_begun Evaluated = true
is_begun Answered = true

-- a state, and a later one
pub record IsLater (before now : State) : Type 0 where
  pub issued : length before.instances ≤ length now.instances
  pub same : (k : ℕ) (d : Instance) → k < length before.instances → IsSameLater (slice_index_or before.instances k d) (slice_index_or now.instances k d)
  pub given : (c k : ℕ) → is_given before c k ≡ true → is_given now c k ≡ true
  pub circuits : length now.circuits ≡ length before.circuits
  pub refused : (c : ℕ) → is_refused (circuit before.circuits c) ≡ true → circuit now.circuits c ≡ circuit before.circuits c
  pub admitted : (c : ℕ) → is_refused (circuit before.circuits c) ≡ false → is_refused (circuit now.circuits c) ≡ false
  pub evaluated : (c : ℕ) → is_settled (circuit before.circuits c) ≡ true → is_settled (circuit now.circuits c) ≡ true
  pub answered : (c : ℕ) → circuit before.circuits c ≡ Answered → circuit now.circuits c ≡ Answered

-- ---- the laws

-- all other replies go with nothing that is done, and that leaves the state as it was
abbrev pub RefusalsDoNothing : Type 0
RefusalsDoNothing = (f : Fixed) (s : State) (caller : ℕ) (c : Call) → accepts (judge f s caller c).reply ≡ false → (judge f s caller c).deed ≡ Nothing

abbrev pub NothingIsDone : Type 0
NothingIsDone = (f : Fixed) (s : State) → done f Nothing s ≡ s

-- what holds at first is kept by every call, whatever it is and whoever makes it
abbrev pub CallsKeep : Type 0
CallsKeep = (f : Fixed) (s : State) (caller : ℕ) (c : Call) → Kept f s → Kept f (step f s caller c).1

abbrev pub HistoriesKeep : Type 0
HistoriesKeep = (f : Fixed) (es : List Entry) → Kept f (state_after f es)

-- those that are present are parties, where parties join
abbrev pub PartiesArePresent : Type 0
PartiesArePresent = (f : Fixed) (es : List Entry) → JoinParties es → (state_after f es).present < 2 ^ 32

-- what never changes, over any calls
abbrev pub CallsLeave : Type 0
CallsLeave = (f : Fixed) (s : State) (caller : ℕ) (c : Call) → Kept f s → IsLater s (step f s caller c).1

abbrev pub HistoriesLeave : Type 0
HistoriesLeave = (f : Fixed) (s : State) (es : List Entry) → Kept f s → IsLater s (after f s es)

-- a complete key other than a first round is there later too
abbrev pub KeysStay : Type 0
KeysStay = (s t : State) (σ : Signature) → IsLater s t → σ ≢ Rlk1 → has_done σ s.instances ≡ true → has_done σ t.instances ≡ true

-- the instance at a place is the first round of that at another
pub record IsFirstAt (is : List Instance) (second first : ℕ) (d : Instance) : Type 0 where
  pub within : second < length is
  pub below : first < length is
  pub signature : (slice_index_or is second d).signature ≡ Rlk2
  pub complete : (slice_index_or is second d).stage ≡ Complete
  pub round1 : (slice_index_or is second d).round1 ≡ (slice_index_or is first d).id

-- the first round of a complete second one stays complete
abbrev pub FirstRoundsStay : Type 0
FirstRoundsStay = (f : Fixed) (s : State) (es : List Entry) (second first : ℕ) (d : Instance) → Kept f s → IsFirstAt s.instances second first d
    → (slice_index_or (after f s es).instances first d).stage ≡ Complete

-- a circuit that a caller has taken is its own until it calls
abbrev pub TakenStays : Type 0
TakenStays = (f : Fixed) (s : State) (caller who : ℕ) (c : Call) (circuit_ : ℕ) → Kept f s → who ≢ caller
    → circuit s.circuits circuit_ ≡ Taken who → circuit (step f s caller c).1.circuits circuit_ ≡ Taken who

-- neither rule of issue applies
abbrev pub IsAtRest : Fixed → State → Type 0
IsAtRest f s = next_move f s ≡ None

-- issuing ends: then neither rule applies, after at most as many moves as are allowed, which are made
-- one after the other
abbrev pub IssueEnds : Type 0
IssueEnds = (f : Fixed) (s : State) → Kept f s → IsAtRest f (issue f s)

abbrev pub IssueIsItsMoves : Type 0
IssueIsItsMoves = (f : Fixed) (s : State) → (issue f s).instances ≡ fold instances_after s.instances (moves f s)

abbrev pub MovesAreFew : Type 0
MovesAreFew = (f : Fixed) (s : State) → length (moves f s) ≤ most_moves f

-- so it is at first, where the threshold is not 0, and after every call
abbrev pub CallsLeaveRest : Type 0
CallsLeaveRest = (f : Fixed) (s : State) (caller : ℕ) (c : Call) → Kept f s → IsAtRest f s → IsAtRest f (step f s caller c).1

abbrev pub HistoriesLeaveRest : Type 0
HistoriesLeaveRest = (f : Fixed) (es : List Entry) → 1 ≤ f.threshold → IsAtRest f (state_after f es)

-- a party of an instance that isn't void
pub record TakesPart (s : State) (id p : ℕ) (i : Instance) : Type 0 where
  pub issued : instance s.instances id ≡ Some i
  pub member : has i.set.bits p ≡ true
  pub lives : IsLive i

-- where it hasn't sent, the instance is opened; a share of the right length is counted
abbrev pub SharesAreWanted : Type 0
SharesAreWanted = (f : Fixed) (s : State) (id p : ℕ) (i : Instance) → Kept f s → TakesPart s id p i → has i.sent.bits p ≡ false
    → (i.stage ≡ Opened) × (deliver f s id p (rows_of i.signature f.rows) ≡ does (counted p i) (Counts i p))

-- and one of another length is not
abbrev pub ShapesAreRefused : Type 0
ShapesAreRefused = (f : Fixed) (s : State) (id p rows : ℕ) (i : Instance) → TakesPart s id p i → has i.sent.bits p ≡ false → rows_of i.signature f.rows ≢ rows
    → deliver f s id p rows ≡ says (reply.Shape (rows_of i.signature f.rows) rows)

-- where it has, the share is a repeat; and so it is at a complete instance
abbrev pub SharesAreCountedOnce : Type 0
SharesAreCountedOnce = (f : Fixed) (s : State) (id p rows : ℕ) (i : Instance) → TakesPart s id p i → has i.sent.bits p ≡ true
    → deliver f s id p rows ≡ says reply.Repeat

abbrev pub CompleteOnesLackNone : Type 0
CompleteOnesLackNone = (f : Fixed) (s : State) (id p rows : ℕ) (i : Instance) → Kept f s → TakesPart s id p i → i.stage ≡ Complete
    → deliver f s id p rows ≡ says reply.Repeat

-- those who sent to a complete instance are exactly its parties
abbrev pub CompleteOnesHaveAll : Type 0
CompleteOnesHaveAll = (f : Fixed) (s : State) (i : Instance) → Kept f s → Contains s.instances i → i.stage ≡ Complete → i.sent ≡ i.set

-- few instances are issued: a call issues at most as many as there are moves
abbrev pub FewAreIssued : Type 0
FewAreIssued = (f : Fixed) (s : State) (caller : ℕ) (c : Call) → length (step f s caller c).1.instances ≤ length s.instances + most_moves f

abbrev pub HistoriesIssueFew : Type 0
HistoriesIssueFew = (f : Fixed) (es : List Entry) → length (state_after f es).instances ≤ length es * most_moves f

-- ---- histories

-- an entry with the reply that it has to have
abbrev pub answered : Fixed → State → ℕ → Call → Entry
answered f s caller c = record { caller = caller; call = c; reply = (step f s caller c).0 }

-- a legal history with one more call is legal, and where it leads
abbrev pub LegalOnesGrow : Type 0
LegalOnesGrow = (f : Fixed) (es : List Entry) (caller : ℕ) (c : Call) → IsLegal f es → IsLegal f (es ++ answered f (state_after f es) caller c ∷ [])

abbrev pub NextState : Type 0
NextState = (f : Fixed) (es : List Entry) (e : Entry) → state_after f (es ++ e ∷ []) ≡ (step f (state_after f es) e.caller e.call).1

-- each beginning of a legal history is legal, and what comes behind it leads on from there
abbrev pub BeginningsAreLegal : Type 0
BeginningsAreLegal = (f : Fixed) (es more : List Entry) → IsLegal f (es ++ more) → IsLegal f es

abbrev pub StatesLeadOn : Type 0
StatesLeadOn = (f : Fixed) (es more : List Entry) → state_after f (es ++ more) ≡ after f (state_after f es) more

-- so what an earlier state says of what never changes, a later one says too
abbrev pub LaterOnesFollow : Type 0
LaterOnesFollow = (f : Fixed) (es more : List Entry) → IsLater (state_after f es) (state_after f (es ++ more))

-- a caller that makes none of some calls
abbrev pub NoneBy : ℕ → List Entry → Type 0
NoneBy who [] = ⊤
NoneBy who (e ∷ es) = (who ≢ e.caller) × NoneBy who es

-- keeps the circuit that it has taken
abbrev pub TakenStaysOn : Type 0
TakenStaysOn = (f : Fixed) (es more : List Entry) (who circuit_ : ℕ) → NoneBy who more
    → circuit (state_after f es).circuits circuit_ ≡ Taken who → circuit (state_after f (es ++ more)).circuits circuit_ ≡ Taken who

-- an instance to which all its parties have sent, as many as act together; the circuit whose decryption it is
-- is answered
pub record HasAll (f : Fixed) (s : State) (id : ℕ) : Type 0 where
  pub item : Instance
  pub issued : instance s.instances id ≡ Some item
  pub sent : item.sent ≡ item.set
  pub parties : count item.set.bits ≡ threshold_at f item.group
  pub answered : (c : ℕ) → item.signature ≡ Dec c → circuit s.circuits c ≡ Answered

-- so it is from the entry on that completes it, whatever becomes of it later
abbrev pub CompletedOnesHaveAll : Type 0
CompletedOnesHaveAll = (f : Fixed) (es more : List Entry) (e : Entry) (id p rows : ℕ) → IsLegal f (es ++ e ∷ more) → e.call ≡ call.Deliver id p rows → e.reply ≡ Completed
    → HasAll f (state_after f (es ++ e ∷ more)) id

-- the refused circuits are those that began so
abbrev pub RefusedOnesBeganSo : Type 0
RefusedOnesBeganSo = (f : Fixed) (es : List Entry) (c : ℕ) (place : Place) (bound limit : ℕ)
    → (circuit (state_after f es).circuits c ≡ Refused place bound limit) ↔ ((plan f c).opening ≡ Refused place bound limit)
