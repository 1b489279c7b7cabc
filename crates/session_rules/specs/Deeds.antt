-- What calls do to the state of a session. Parties have numbers from 1 to 32: of others nothing here is meant.
use Rattle.std.specs.Prelude.{ℕ, Bool, true, false, nat_eq, ◌&&◌, ◌||◌, cond, if◌then◌else◌, List, [], map, slice_set, Option, Some, None}
use Rattle.std.specs.List.{slice_index_or, list_any}
use Rattle.proto_names.specs.Names.{same}
use Rattle.proto_names.specs.Groups.{with_party, without_party}
use Rattle.proto_names.specs.Instances.{lacks, missing, after_share}
use Rattle.proto_names.specs.declared.signature.Signature.{Signature}
use Rattle.proto_names.specs.declared.signature.Signature.TheVariants.{Pk, Rlk1, Rlk2, Rot, Dec}
use Rattle.proto_names.specs.declared.instance.Instance.{Instance}
use Rattle.proto_names.specs.declared.instance.Stage.TheVariants.{Void}
use Rattle.session_rules.specs.declared.deed.Deed.{Deed}
use Rattle.session_rules.specs.declared.deed.Deed.TheVariants.{Nothing, Joins, Loses, Counts, Gives, Turns}
use Rattle.session_rules.specs.declared.state.CircuitState.{CircuitState}
use Rattle.session_rules.specs.declared.state.CircuitState.TheVariants.{Answered}
use Rattle.session_rules.specs.declared.fixed.Fixed.{Fixed}
use Rattle.session_rules.specs.States.{State, is_evaluated}
use Rattle.session_rules.specs.Issues.{issue}

-- ---- a party is lost

-- it is the second round of an instance, and lacks the party's share
abbrev pub lacks_for : ℕ → ℕ → Instance → Bool
lacks_for p id i = same i.signature Rlk2 && nat_eq i.round1 id && lacks p i

-- an instance that is void once the party is lost: it lacks the party's share, or its second round does
unfoldable pub falls : ℕ → List Instance → Instance → Bool
falls p is i = lacks p i || list_any (lacks_for p i.id) is

abbrev pub fallen : ℕ → List Instance → Instance → Instance
fallen p is i = if falls p is i then record i { stage = Void p } else i

unfoldable pub after_loss : ℕ → List Instance → List Instance
after_loss p is = map (fallen p is) is

-- ---- a share is counted

-- the share of party p is the last one of an instance
abbrev pub is_last : ℕ → Instance → Bool
is_last p i = nat_eq (missing p i) 0

-- the circuit of a decryption that is complete is answered
unfoldable pub answered_by : Signature → List CircuitState → List CircuitState
answered_by Pk circuits = circuits
answered_by Rlk1 circuits = circuits
answered_by Rlk2 circuits = circuits
answered_by (Rot g) circuits = circuits
answered_by (Dec c) circuits = slice_set circuits c Answered

-- ---- an input is given, a circuit comes to a state

abbrev pub with_input : List (List Bool) → ℕ → ℕ → List (List Bool)
with_input given c k = slice_set given c (slice_set (slice_index_or given c []) k true)

abbrev pub with_circuit : State → ℕ → CircuitState → State
with_circuit s c now = record s { circuits = slice_set s.circuits c now }

-- ---- any deed

-- what it changes by itself
unfoldable pub changed : Deed → State → State
changed Nothing s = s
changed (Joins p) s = record s { present = with_party s.present p }
changed (Loses p) s = record s { present = without_party s.present p; instances = after_loss p s.instances }
changed (Counts i p) s =
    record s { instances = after_share i.id p s.instances; circuits = cond (is_last p i) (answered_by i.signature s.circuits) s.circuits }
changed (Gives c k) s = record s { given = with_input s.given c k }
changed (Turns c now) s = with_circuit s c now

-- whether the rules of issue are applied then: a party comes or goes, an instance is complete, or a circuit
-- is evaluated
abbrev pub leads_on : Deed → Bool
leads_on Nothing = false
leads_on (Joins p) = true
leads_on (Loses p) = true
leads_on (Counts i p) = is_last p i
leads_on (Gives c k) = false
leads_on (Turns c now) = is_evaluated now

-- the state once it is done
unfoldable pub done : Fixed → Deed → State → State
done f d s = if leads_on d then issue f (changed d s) else changed d s

-- ---- which one it is

abbrev pub is_nothing : Deed → Bool
is_nothing Nothing = true
is_nothing (Joins p) = false
is_nothing (Loses p) = false
is_nothing (Counts i p) = false
is_nothing (Gives c k) = false
is_nothing (Turns c now) = false

-- the instance for which a share is counted
abbrev pub counts_for : Deed → Option Instance
counts_for Nothing = None
counts_for (Joins p) = None
counts_for (Loses p) = None
counts_for (Counts i p) = Some i
counts_for (Gives c k) = None
counts_for (Turns c now) = None
