-- What those that act in a session have called, and where they stop.
use Rattle.std.specs.Prelude.{◌≡◌, ◌≢◌, ℕ, ◌+◌, ◌≤◌, Bool, true, false, ◌⊎◌, List, [], ◌∷◌, ◌++◌, length, map, Option, Some}
use Rattle.party_roll.specs.declared.roll.Roll.{Ghosts}
use Rattle.session_rules.specs.declared.call.Call.{Call}
use Rattle.session_rules.specs.declared.call.Call.TheVariants as call
use Rattle.session_rules.specs.declared.call.Entry.{Entry}
use Rattle.session_rules.specs.declared.reply.Reply.{Reply}
use Rattle.session_rules.specs.declared.fixed.Fixed.{Fixed}
use Rattle.session_rules.specs.States.{State}
use Rattle.session_rules.specs.Histories.{after, state_after}
use Rattle.session_rules.specs.declared.line.Line.{Line}
use Rattle.session_rules.specs.declared.line.Line.TheVariants as line
use Rattle.session_rules.specs.Tasks.{Task, does, exhausts, Held, Left, next_call, left, own, entry}
use Rattle.share_spec.specs.Sets.{members}
use Rattle.session_rules.specs.Courses.{to_do, sends, Follows, BreaksOff, serial_tasks, Settles, Unsettled, rounds}
use Rattle.run_laws.specs.Leaving.{Leaves, idle}
use Rattle.session_spec.specs.Settings.{rules}
use Rattle.session_core.specs.Calls.{known, state_of}
use Rattle.session_core.specs.declared.session.Session.{Session}
use Rattle.session_core.specs.declared.stop.Stop.{Stop}
use Rattle.session_core.specs.declared.stop.Stop.TheVariants.{Spent, NoMemory}
use Rattle.lane_workers.specs.declared.holding.Holding.{Holding}
use Rattle.lane_workers.specs.Desks.{View, rules_of, state_seen}
use Rattle.lane_workers.specs.Hands.{in_hand}

-- ---- what was called

-- a desk has seen more calls: its own ones are such as is said, and others' between them where it isn't alone
pub record Added (Are : List Entry → Type 0) (v w : View) : Type 0 where
  pub more : List Entry
  pub made : List Entry
  pub seen : w.seen ≡ v.seen ++ more
  pub mine : w.mine ≡ v.mine ++ made
  pub its : own v.fixed.caller more ≡ made
  pub alone : v.fixed.alone ≡ true → more ≡ made
  pub are : Are made

-- some entries stand behind the log of a session, all of them caller 0's, and they are such as is said
pub record Acted (Are : List Entry → Type 0) (before now : List Entry) : Type 0 where
  pub made : List Entry
  pub log : now ≡ before ++ made
  pub alone : own 0 made ≡ made
  pub are : Are made

-- they settle a session
pub record AreRounds (f : Fixed) (s : State) (es : List Entry) : Type 0 where
  pub settles : Settles rounds f 0 s es

-- some parties join, lanes are followed one after the other, and then they settle it
pub record AreSerial (f : Fixed) (present : List ℕ) (lanes : List (List Line)) (s : State) (es : List Entry) : Type 0 where
  pub acts : List Entry
  pub settling : List Entry
  pub parts : es ≡ acts ++ settling
  pub follows : Follows f.rows (serial_tasks present lanes) acts
  pub settles : Settles rounds f 0 (after f s acts) settling

-- ---- with something in hand

-- from what is in hand and to be done, entries lead to what is in hand and still to be done
pub record Goes (l : ℕ) (from to : Left) (es : List Entry) : Type 0 where
  pub goes : left l from es ≡ left l to []

-- they are the first ones of such calls, and not all: this one is next
pub record Cuts (l : ℕ) (from : Left) (es : List Entry) (next : Call) : Type 0 where
  pub rest : Left
  pub begins : left l from es ≡ Some rest
  pub more : next_call rest ≡ Some next

-- tasks are done but for these, whatever is in hand then
pub record Passes (l : ℕ) (ts rest : List Task) (es : List Entry) : Type 0 where
  pub hand : Option Held
  pub goes : Goes l (to_do ts) (record { hand = hand; tasks = rest }) es

-- ---- where it stops

-- whether a call brings what has to be made before it: a share, an encryption, an output
abbrev pub is_made_first : Call → Bool
is_made_first (call.Deliver id p rows) = true
is_made_first (call.Input c k) = true
is_made_first (call.Finish c) = true
is_made_first other = false

-- why it stopped at this call: a full log is told as such, but where what the call brings met no memory
abbrev pub StopsFor : Stop → ℕ → List Entry → Call → Type 0
StopsFor Spent most now next = length now ≡ most
StopsFor NoMemory most now next = is_made_first next ≡ false → length now ≢ most

-- the circuit in hand was given back, since there was no memory for its output or for bringing that
pub record GaveBack (who : ℕ) (why : Stop) (next : Call) (back : List Entry) : Type 0 where
  pub circuit : ℕ
  pub reply : Reply
  pub short : why ≡ NoMemory
  pub unfinished : next ≡ call.Finish circuit
  pub entry : back ≡ entry who (call.GiveBack circuit) reply ∷ []

-- what was called once it had stopped: nothing, or that
abbrev pub GivesBack : ℕ → Stop → Call → List Entry → Type 0
GivesBack who why next back = (back ≡ []) ⊎ GaveBack who why next back

-- a desk's own entries are such as is said, by the call that would be next, at which it stopped; and behind them
-- stands what it gave back then
pub record Broken (why : Stop) (Are : List Entry → Call → Type 0) (v w : View) : Type 0 where
  pub more : List Entry
  pub made : List Entry
  pub back : List Entry
  pub seen : w.seen ≡ v.seen ++ more
  pub mine : w.mine ≡ v.mine ++ made ++ back
  pub its : own v.fixed.caller more ≡ made ++ back
  pub alone : v.fixed.alone ≡ true → more ≡ made ++ back
  pub next : Call
  pub are : Are made next
  pub gives_back : GivesBack v.fixed.caller why next back
  pub reason : StopsFor why v.fixed.known.most w.seen next

-- so behind the log of a session
pub record Halted (most : ℕ) (why : Stop) (Are : List Entry → Call → Type 0) (before now : List Entry) : Type 0 where
  pub made : List Entry
  pub back : List Entry
  pub log : now ≡ before ++ made ++ back
  pub alone : own 0 made ≡ made
  pub next : Call
  pub are : Are made next
  pub gives_back : GivesBack 0 why next back
  pub reason : StopsFor why most now next

-- the first entries of those that settle a session, and not all
pub record AreFewRounds (f : Fixed) (s : State) (es : List Entry) (next : Call) : Type 0 where
  pub unsettled : Unsettled rounds f 0 s es next

-- it stopped where parties join or in a lane, or later where it settles
abbrev pub StopsLater : Fixed → List ℕ → List (List Line) → State → List Entry → Call → Type 0
StopsLater f present lanes s es next =
    (acts : List Entry) × (settling : List Entry) × (es ≡ acts ++ settling) × Follows f.rows (serial_tasks present lanes) acts
    × Unsettled rounds f 0 (after f s acts) settling next

pub record AreFewSerial (f : Fixed) (present : List ℕ) (lanes : List (List Line)) (s : State) (es : List Entry) (next : Call) : Type 0 where
  pub begins : BreaksOff f.rows (serial_tasks present lanes) es next ⊎ StopsLater f present lanes s es next

-- ---- of a desk

-- the task of a line
abbrev pub loses : ℕ → Task
loses p = does (line.Lose p)

abbrev pub works : Task
works = does line.Work

abbrev pub quits : Task
quits = does line.Quit

-- what is in hand, and a line to be done
abbrev pub line_left : Option Held → Line → Left
line_left hand x = record { hand = hand; tasks = does x ∷ [] }

-- what is in hand, and nothing to be done
abbrev pub at_end : Option Held → Left
at_end hand = record { hand = hand; tasks = [] }

-- what is to be done once a circuit was asked for: to ask again, if there was one
abbrev pub again : Bool → List Task
again true = exhausts ∷ []
again false = []

-- what is done from one view to another: as much of some tasks that these are left, or all of them
abbrev pub Doing : List Task → List Task → View → View → Type 0
Doing ts rest v w = Added (Leaves (rules_of v).rows ts rest) v w

abbrev pub Did : List Task → View → View → Type 0
Did ts v w = Doing ts [] v w

-- the first calls of some tasks are made, and not all
abbrev pub BrokeOff : List Task → View → View → Stop → Type 0
BrokeOff ts v w why = Broken why (BreaksOff (rules_of v).rows ts) v w

-- so from what is in hand
abbrev pub Going : Left → Left → View → View → Type 0
Going from to v w = Added (Goes (rules_of v).rows from to) v w

abbrev pub CutOff : Left → View → View → Stop → Type 0
CutOff from v w why = Broken why (Cuts (rules_of v).rows from) v w

-- a line is done, from what is in hand to what is in hand then
abbrev pub DidLine : Line → Option Holding → View → View → Option Holding → Type 0
DidLine x hand v w next = Going (line_left (in_hand (rules_of v) hand) x) (at_end (in_hand (rules_of v) next)) v w

abbrev pub StoppedLine : Line → Option Holding → View → View → Stop → Type 0
StoppedLine x hand v w why = CutOff (line_left (in_hand (rules_of v) hand) x) v w why

-- tasks are done but for some, or all of them, whatever is in hand then
abbrev pub Passing : List Task → List Task → View → View → Type 0
Passing ts rest v w = Added (Passes (rules_of v).rows ts rest) v w

abbrev pub Followed : List Task → View → View → Type 0
Followed ts v w = Added (Follows (rules_of v).rows ts) v w

-- a circuit was asked for, and evaluated if there was one; fewer are idle then, where nobody else acts
pub record Worked (v w : View) (more : Bool) : Type 0 where
  pub does : Doing (exhausts ∷ []) (again more) v w
  pub line : Did (works ∷ []) v w
  pub fewer : v.fixed.alone ≡ true → more ≡ true → idle (state_seen w) + 1 ≤ idle (state_seen v)

-- ---- of a session

module _ {R : Type 0} {K : Ghosts R} where
  -- all that those who are present owe is to be sent
  abbrev pub all_send : Session R K → List Task
  all_send s = map sends (members (state_of s).present)

  -- the rules, and the state behind the log
  abbrev pub rules_for : Session R K → Fixed
  rules_for s = rules (known s).setting

  abbrev pub state_behind : Session R K → State
  state_behind s = state_after (rules_for s) s.log.items

  -- it was settled, or settling stopped
  abbrev pub Settled : Session R K → Session R K → Type 0
  Settled old new = Acted (AreRounds (rules_for old) (state_behind old)) old.log.items new.log.items

  abbrev pub StoppedSettling : Session R K → Session R K → Stop → Type 0
  StoppedSettling old new why = Halted (known old).most why (AreFewRounds (rules_for old) (state_behind old)) old.log.items new.log.items

  -- and so after some parties joined and lanes were followed
  abbrev pub Served : List ℕ → List (List Line) → Session R K → Session R K → Type 0
  Served present lanes old new = Acted (AreSerial (rules_for old) present lanes (state_behind old)) old.log.items new.log.items

  abbrev pub StoppedServing : List ℕ → List (List Line) → Session R K → Session R K → Stop → Type 0
  StoppedServing present lanes old new why =
      Halted (known old).most why (AreFewSerial (rules_for old) present lanes (state_behind old)) old.log.items new.log.items
