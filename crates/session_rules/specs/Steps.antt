-- The nine calls: of each the reply, and what is done. Replies are tried in the order in which they
-- stand; nothing is done where a call is refused.
use Rattle.std.specs.Prelude.{ℕ, Bool, not, nat_eq, nat_lt, ◌&&◌, ◌||◌, cond, if◌then◌else◌, List, [], length, map, filter, Option, Some, None}
use Rattle.std.specs.List.{slice_index_or, range_with_len, find, list_all, flat_map}
use Rattle.share_spec.specs.Sets.{has}
use Rattle.proto_names.specs.Names.{rows_of}
use Rattle.proto_names.specs.Instances.{instance, missing, owed_shares}
use Rattle.proto_names.specs.declared.signature.Signature.TheVariants.{Pk, Rlk2, Rot}
use Rattle.proto_names.specs.declared.instance.Instance.{Instance}
use Rattle.proto_names.specs.declared.instance.Stage.{Stage}
use Rattle.proto_names.specs.declared.instance.Stage.TheVariants.{Opened, Complete, Void}
use Rattle.session_rules.specs.declared.call.Call.{Call}
use Rattle.session_rules.specs.declared.call.Call.TheVariants as call
use Rattle.session_rules.specs.declared.reply.Reply.{Reply}
use Rattle.session_rules.specs.declared.reply.Reply.TheVariants as reply
use Rattle.session_rules.specs.declared.deed.Deed.{Deed}
use Rattle.session_rules.specs.declared.deed.Deed.TheVariants.{Nothing, Joins, Loses, Counts, Gives, Turns}
use Rattle.session_rules.specs.declared.deed.Verdict.{Verdict}
use Rattle.session_rules.specs.declared.state.CircuitState.TheVariants.{Idle, Taken, Evaluated}
use Rattle.session_rules.specs.declared.fixed.Plan.{Plan}
use Rattle.session_rules.specs.declared.fixed.Fixed.{Fixed}
use Rattle.session_rules.specs.States.{State, is_admitted, is_idle, is_taken_by, plan, circuit, is_given, has_done}
use Rattle.session_rules.specs.Deeds.{done}

-- a reply with which nothing is done, and one with which something is
abbrev pub says : Reply → Verdict
says r = record { reply = r; deed = Nothing }

abbrev pub does : Reply → Deed → Verdict
does r d = record { reply = r; deed = d }

-- ---- join and lose

unfoldable pub join : State → ℕ → Verdict
join s p = if has s.present p then says reply.Already else does reply.Joined (Joins p)

unfoldable pub lose : State → ℕ → Verdict
lose s p = if not (has s.present p) then says reply.Already else does reply.Left (Loses p)

-- ---- pending and brief

-- input k of circuit c is the party's, and isn't given
unfoldable pub lacks_input : Fixed → State → ℕ → ℕ → ℕ → Bool
lacks_input f s p c k = nat_eq (slice_index_or (plan f c).owners k 0) p && not (is_given s c k)

abbrev pub place : ℕ → ℕ → ℕ × ℕ
place c k = (c, k)

-- the places of a party's inputs of circuit c that aren't given, if the circuit is admitted
unfoldable pub owed_of : Fixed → State → ℕ → ℕ → List (ℕ × ℕ)
owed_of f s p c =
    cond (is_admitted (plan f c)) (map (place c) (filter (lacks_input f s p c) (range_with_len 0 (length (plan f c).owners)))) []

-- all of them, rising, once there is a public key
unfoldable pub owed_inputs : Fixed → State → ℕ → List (ℕ × ℕ)
owed_inputs f s p = cond (has_done Pk s.instances) (flat_map (owed_of f s p) (range_with_len 0 (length f.plans))) []

unfoldable pub pending : Fixed → State → ℕ → Reply
pending f s p =
    if has s.present p then reply.List (owed_shares p s.instances) (owed_inputs f s p)
    else reply.Absent

unfoldable pub told : Instance → Stage → Reply
told i (Void by) = reply.Late by
told i Opened = reply.Brief i.signature i.set
told i Complete = reply.Brief i.signature i.set

unfoldable pub brief : State → ℕ → Reply
brief s id = elim (instance s.instances id) [
  | None ↦ reply.Unknown (length s.instances)
  | Some i ↦ told i i.stage
]

-- ---- deliver

-- a share that is counted: it is the last one, or so many are missing
unfoldable pub counted : ℕ → Instance → Reply
counted p i = if nat_eq (missing p i) 0 then reply.Completed else reply.Counted (missing p i)

-- a share for an instance that isn't void
unfoldable pub accepted : Fixed → Instance → ℕ → ℕ → Verdict
accepted f i p rows =
    if has i.sent.bits p then says reply.Repeat
    else if not (nat_eq (rows_of i.signature f.rows) rows) then says (reply.Shape (rows_of i.signature f.rows) rows)
    else does (counted p i) (Counts i p)

unfoldable pub by_stage : Fixed → Instance → ℕ → ℕ → Stage → Verdict
by_stage f i p rows (Void by) = says (reply.Late by)
by_stage f i p rows Opened = accepted f i p rows
by_stage f i p rows Complete = accepted f i p rows

unfoldable pub deliver : Fixed → State → ℕ → ℕ → ℕ → Verdict
deliver f s id p rows = elim (instance s.instances id) [
  | None ↦ says (reply.Unknown (length s.instances))
  | Some i ↦ if has i.set.bits p then by_stage f i p rows i.stage else says reply.Stranger
]

-- ---- input

-- whether circuit c is admitted and has an input k
unfoldable pub is_input : Fixed → ℕ → ℕ → Bool
is_input f c k = is_admitted (plan f c) && nat_lt k (length (plan f c).owners)

unfoldable pub input : Fixed → State → ℕ → ℕ → Verdict
input f s c k =
    if not (is_input f c k) then says reply.NoInput
    else if not (has_done Pk s.instances) then says reply.NoKey
    else if not (has s.present (slice_index_or (plan f c).owners k 0)) then says reply.Absent
    else if is_given s c k then says reply.Repeat
    else does reply.Given (Gives c k)

-- ---- take, finish, give back

abbrev pub is_given_input : Bool → Bool
is_given_input b = b

abbrev pub has_turn : State → ℕ → Bool
has_turn s g = has_done (Rot g) s.instances

-- the keys that a circuit needs are complete
unfoldable pub has_keys : State → Plan → Bool
has_keys s plan = (not plan.product || has_done Rlk2 s.instances) && list_all (has_turn s) plan.turns

-- a circuit that may be evaluated: it is idle, its inputs are given, and its keys are complete
unfoldable pub ready : Fixed → State → ℕ → Bool
ready f s c =
    is_idle (circuit s.circuits c) && list_all is_given_input (slice_index_or s.given c []) && has_keys s (plan f c)

unfoldable pub next_ready : Fixed → State → Option ℕ
next_ready f s = find (ready f s) (range_with_len 0 (length f.plans))

unfoldable pub take : Fixed → State → ℕ → Verdict
take f s caller = elim (next_ready f s) [
  | None ↦ says reply.Nothing
  | Some c ↦ does (reply.Job c) (Turns c (Taken caller))
]

unfoldable pub finish : State → ℕ → ℕ → Verdict
finish s caller c =
    if is_taken_by caller (circuit s.circuits c) then does reply.Finished (Turns c Evaluated) else says reply.NotTaken

unfoldable pub give_back : State → ℕ → ℕ → Verdict
give_back s caller c =
    if is_taken_by caller (circuit s.circuits c) then does reply.Returned (Turns c Idle) else says reply.NotTaken

-- ---- any call of any caller

-- what the rules say to it
unfoldable pub judge : Fixed → State → ℕ → Call → Verdict
judge f s caller (call.Join p) = join s p
judge f s caller (call.Lose p) = lose s p
judge f s caller (call.Pending p) = says (pending f s p)
judge f s caller (call.Brief id) = says (brief s id)
judge f s caller (call.Deliver id p rows) = deliver f s id p rows
judge f s caller (call.Input c k) = input f s c k
judge f s caller call.Take = take f s caller
judge f s caller (call.Finish c) = finish s caller c
judge f s caller (call.GiveBack c) = give_back s caller c

-- the reply, and the state then
unfoldable pub step : Fixed → State → ℕ → Call → Reply × State
step f s caller c = ((judge f s caller c).reply, done f (judge f s caller c).deed s)
