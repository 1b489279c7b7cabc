-- What the helper of a session knows of it, without polynomials.
use Rattle.std.specs.Prelude.{ℕ, Bool, true, false, not, nat_eq, List, [], length, map, replicate}
use Rattle.std.specs.List.{slice_index_or, list_any}
use Rattle.proto_names.specs.Instances.{lives, is_done}
use Rattle.proto_names.specs.declared.signature.Signature.{Signature}
use Rattle.proto_names.specs.declared.instance.Instance.{Instance}
use Rattle.session_rules.specs.declared.fixed.Plan.{Plan}
use Rattle.session_rules.specs.declared.fixed.Fixed.{Fixed}
use Rattle.session_rules.specs.declared.state.CircuitState.{CircuitState}
use Rattle.session_rules.specs.declared.state.CircuitState.TheVariants.{Refused, Idle, Taken, Evaluated, Answered}

-- the set of the parties that are present; the instances, of which the one with number i is the i-th;
-- for each input of each circuit whether it is given; and how far each circuit has come
pub record State : Type 0 where
  pub present : ℕ
  pub instances : List Instance
  pub given : List (List Bool)
  pub circuits : List CircuitState

-- the state of these parts
abbrev pub seen : ℕ → List Instance → List (List Bool) → List CircuitState → State
seen present is given circuits = record { present = present; instances = is; given = given; circuits = circuits }

-- T, how many parties of the group at a place act together: so far all instances are of the one group, at place 0
abbrev pub threshold_at : Fixed → ℕ → ℕ
threshold_at f group = f.threshold

abbrev pub group_now : State → ℕ
group_now s = 0

-- ---- circuits

abbrev pub is_refused : CircuitState → Bool
is_refused (Refused place bound limit) = true
is_refused Idle = false
is_refused (Taken caller) = false
is_refused Evaluated = false
is_refused Answered = false

abbrev pub is_idle : CircuitState → Bool
is_idle (Refused place bound limit) = false
is_idle Idle = true
is_idle (Taken caller) = false
is_idle Evaluated = false
is_idle Answered = false

abbrev pub is_taken_by : ℕ → CircuitState → Bool
is_taken_by who (Refused place bound limit) = false
is_taken_by who Idle = false
is_taken_by who (Taken caller) = nat_eq caller who
is_taken_by who Evaluated = false
is_taken_by who Answered = false

abbrev pub is_evaluated : CircuitState → Bool
is_evaluated (Refused place bound limit) = false
is_evaluated Idle = false
is_evaluated (Taken caller) = false
is_evaluated Evaluated = true
is_evaluated Answered = false

abbrev pub is_answered : CircuitState → Bool
is_answered (Refused place bound limit) = false
is_answered Idle = false
is_answered (Taken caller) = false
is_answered Evaluated = false
is_answered Answered = true

abbrev pub is_admitted : Plan → Bool
is_admitted plan = not (is_refused plan.opening)

-- no circuit, which stands for one that isn't there
abbrev pub no_plan : Plan
no_plan = record { nodes = []; owners = []; product = false; turns = []; opening = Answered }

-- circuit c, and how far it has come
abbrev pub plan : Fixed → ℕ → Plan
plan f c = slice_index_or f.plans c no_plan

abbrev pub circuit : List CircuitState → ℕ → CircuitState
circuit circuits c = slice_index_or circuits c Answered

-- whether input k of circuit c is given
abbrev pub is_given : State → ℕ → ℕ → Bool
is_given s c k = slice_index_or (slice_index_or s.given c []) k false

-- ---- instances

-- whether there is one of a signature that is opened or complete, and one that is complete
unfoldable pub has_live : Signature → List Instance → Bool
has_live σ is = list_any (lives σ) is

unfoldable pub has_done : Signature → List Instance → Bool
has_done σ is = list_any (is_done σ) is

-- ---- the beginning: nobody is present, nothing is issued or given

abbrev pub none_given : Plan → List Bool
none_given plan = replicate (length plan.owners) false

abbrev pub opening_of : Plan → CircuitState
opening_of plan = plan.opening

unfoldable pub opening : Fixed → State
opening f = record { present = 0; instances = []; given = map none_given f.plans; circuits = map opening_of f.plans }
