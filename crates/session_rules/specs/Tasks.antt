-- What is left to do for one who acts in a session: tasks, one after the other, each of which begins with a
-- call, and the reply says what of it is left. Only the entries of that caller are looked at, so others may
-- call between them.
use Rattle.std.specs.Prelude.{ℕ, zero, suc, Bool, true, false, nat_eq, ◌&&◌, if◌then◌else◌, List, [], ◌∷◌, ◌++◌, map, filter, Option, Some, None}
use Rattle.std.specs.Option.{option_map}
use Rattle.proto_names.specs.Names.{rows_of}
use Rattle.proto_names.specs.declared.signature.Signature.{Signature}
use Rattle.session_rules.specs.declared.call.Call.{Call}
use Rattle.session_rules.specs.declared.call.Call.TheVariants as call
use Rattle.session_rules.specs.declared.call.Entry.{Entry}
use Rattle.session_rules.specs.declared.reply.Reply.{Reply}
use Rattle.session_rules.specs.declared.reply.Reply.TheVariants as reply
use Rattle.session_rules.specs.declared.line.Line.{Line}
use Rattle.session_rules.specs.declared.line.Line.TheVariants as line
use Rattle.session_rules.specs.declared.fixed.Fixed.{Fixed}
use Rattle.session_rules.specs.States.{State}
use Rattle.session_rules.specs.Steps.{step}

-- ---- tasks

-- a share of an instance that is in hand: by a party, of so many polynomials
pub record Held : Type 0 where
  pub id : ℕ
  pub party : ℕ
  pub rows : ℕ

pub data Task : Type 0 where
  -- a lane begins: nothing is in hand
  begin : Task
  -- a line of a lane
  does : Line → Task
  -- party p asks what an instance is, and gives its share of it
  shares : (p id : ℕ) → Task
  -- a share is delivered
  delivers : Held → Task
  -- input k of circuit c is given
  gives : (c k : ℕ) → Task
  -- a circuit that was taken is evaluated, or given back
  finishes : (c : ℕ) → Task
  returns : (c : ℕ) → Task
  -- circuits are taken and evaluated until none is ready
  exhausts : Task

-- what is in hand, and what is still to be done
pub record Left : Type 0 where
  pub hand : Option Held
  pub tasks : List Task

-- ---- the first call

abbrev pub delivery : Held → Call
delivery share = call.Deliver share.id share.party share.rows

-- the call with which a line begins; `give` calls nothing where nothing is in hand
abbrev pub line_call : Option Held → Line → Option Call
line_call hand (line.Join p) = Some (call.Join p)
line_call hand (line.Lose p) = Some (call.Lose p)
line_call hand (line.Send p) = Some (call.Pending p)
line_call hand (line.Hold p id) = Some (call.Brief id)
line_call hand line.Give = option_map delivery hand
line_call hand line.Work = Some call.Take
line_call hand line.Quit = Some call.Take

abbrev pub task_call : Option Held → Task → Option Call
task_call hand begin = None
task_call hand (does l) = line_call hand l
task_call hand (shares p id) = Some (call.Brief id)
task_call hand (delivers share) = Some (delivery share)
task_call hand (gives c k) = Some (call.Input c k)
task_call hand (finishes c) = Some (call.Finish c)
task_call hand (returns c) = Some (call.GiveBack c)
task_call hand exhausts = Some call.Take

-- what is in hand once a task that calls nothing is passed over
abbrev pub passed : Option Held → Task → Option Held
passed hand begin = None
passed hand other = hand

-- tasks that call nothing are dropped from the front
unfoldable pub dropped : Option Held → List Task → Left
dropped hand [] = record { hand = hand; tasks = [] }
dropped hand (t ∷ ts) = elim (task_call hand t) [
  | None ↦ dropped (passed hand t) ts
  | Some c ↦ record { hand = hand; tasks = t ∷ ts }
]

unfoldable pub at_call : Left → Left
at_call todo = dropped todo.hand todo.tasks

-- ---- what a reply leaves to do

-- a list, a brief, a job, if the reply is one
pub record Lists : Type 0 where
  pub ids : List ℕ
  pub inputs : List (ℕ × ℕ)

abbrev pub listed : Reply → Option Lists
listed (reply.List ids inputs) = Some (record { ids = ids; inputs = inputs })
listed other = None

abbrev pub briefed : Reply → Option Signature
briefed (reply.Brief signature set) = Some signature
briefed other = None

abbrev pub job : Reply → Option ℕ
job (reply.Job circuit) = Some circuit
job other = None

abbrev pub gives_at : ℕ × ℕ → Task
gives_at place = gives place.0 place.1

-- all that a party owes: its shares, and then its inputs
unfoldable pub owing : ℕ → Option Lists → List Task
owing p None = []
owing p (Some owed) = map (shares p) owed.ids ++ map gives_at owed.inputs

-- party p's share of an instance with this signature
abbrev pub share_for : ℕ → ℕ → ℕ → Signature → Held
share_for l p id σ = record { id = id; party = p; rows = rows_of σ l }

unfoldable pub delivering : Option Held → List Task
delivering None = []
delivering (Some share) = delivers share ∷ []

unfoldable pub evaluating : Option ℕ → List Task
evaluating None = []
evaluating (Some c) = finishes c ∷ []

unfoldable pub returning : Option ℕ → List Task
returning None = []
returning (Some c) = returns c ∷ []

unfoldable pub exhausting : Option ℕ → List Task
exhausting None = []
exhausting (Some c) = finishes c ∷ exhausts ∷ []

-- `l` are the rows of the gadget
abbrev pub line_leaves : ℕ → Line → Reply → List Task
line_leaves l (line.Join p) r = []
line_leaves l (line.Lose p) r = []
line_leaves l (line.Send p) r = owing p (listed r)
line_leaves l (line.Hold p id) r = []
line_leaves l line.Give r = []
line_leaves l line.Work r = evaluating (job r)
line_leaves l line.Quit r = returning (job r)

abbrev pub leaves : ℕ → Task → Reply → List Task
leaves l begin r = []
leaves l (does x) r = line_leaves l x r
leaves l (shares p id) r = delivering (option_map (share_for l p id) (briefed r))
leaves l (delivers share) r = []
leaves l (gives c k) r = []
leaves l (finishes c) r = []
leaves l (returns c) r = []
leaves l exhausts r = exhausting (job r)

-- what is in hand after the call of a task: `hold` takes a share into it, if there is one to be made
abbrev pub line_hand : ℕ → Line → Reply → Option Held → Option Held
line_hand l (line.Hold p id) r hand = option_map (share_for l p id) (briefed r)
line_hand l other r hand = hand

abbrev pub hand_after : ℕ → Task → Reply → Option Held → Option Held
hand_after l (does x) r hand = line_hand l x r hand
hand_after l other r hand = hand

-- ---- calls that do what is to be done

-- the first call of what is left, if it calls anything, and what the reply leaves
abbrev pub first_call : Option Held → List Task → Option Call
first_call hand [] = None
first_call hand (t ∷ ts) = task_call hand t

unfoldable pub next_call : Left → Option Call
next_call todo = first_call (at_call todo).hand (at_call todo).tasks

abbrev pub rest_of : ℕ → Option Held → List Task → Reply → Left
rest_of l hand [] r = record { hand = hand; tasks = [] }
rest_of l hand (t ∷ ts) r = record { hand = hand_after l t r hand; tasks = leaves l t r ++ ts }

unfoldable pub after_reply : ℕ → Left → Reply → Left
after_reply l todo r = rest_of l (at_call todo).hand (at_call todo).tasks r

-- whether two calls are the same
abbrev pub same_call : Call → Call → Bool
same_call (call.Join p) (call.Join q) = nat_eq p q
same_call (call.Lose p) (call.Lose q) = nat_eq p q
same_call (call.Pending p) (call.Pending q) = nat_eq p q
same_call (call.Brief i) (call.Brief j) = nat_eq i j
same_call (call.Deliver i p r) (call.Deliver j q s) = nat_eq i j && nat_eq p q && nat_eq r s
same_call (call.Input c k) (call.Input d j) = nat_eq c d && nat_eq k j
same_call call.Take call.Take = true
same_call (call.Finish c) (call.Finish d) = nat_eq c d
same_call (call.GiveBack c) (call.GiveBack d) = nat_eq c d
same_call a b = false

abbrev pub is_call : Option Call → Entry → Bool
is_call None e = false
is_call (Some c) e = same_call c e.call

-- what is left once these are the calls; none where they aren't the calls of what is to be done
unfoldable pub left : ℕ → Left → List Entry → Option Left
left l todo [] = Some (at_call todo)
left l todo (e ∷ es) = if is_call (next_call todo) e then left l (after_reply l todo e.reply) es else None

-- a caller's own entries
abbrev pub is_by : ℕ → Entry → Bool
is_by who e = nat_eq e.caller who

abbrev pub own : ℕ → List Entry → List Entry
own who es = filter (is_by who) es

-- ---- the calls that one caller makes alone, each answered by the rules: at most n of them

abbrev pub entry : ℕ → Call → Reply → Entry
entry who c r = record { caller = who; call = c; reply = r }

unfoldable pub run : ℕ → Fixed → ℕ → State → Left → List Entry
run zero f who s todo = []
run (suc n) f who s todo = elim (next_call todo) [
  | None ↦ []
  | Some c ↦ entry who c (step f s who c).0 ∷ run n f who (step f s who c).1 (after_reply f.rows todo (step f s who c).0)
]
