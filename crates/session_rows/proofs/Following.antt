-- What is left to do of a line, a lane and a script once some calls are made, and which calls aren't theirs.
use Rattle.std.proofs.Common.{◌≡◌, ℕ, suc, false, inl, List, [], ◌∷◌, ◌++◌, length, Option, Some, None, refl, ap, ◌∙◌, arith}
use Rattle.proto_names.specs.declared.signature.Signature.TheVariants.{Pk, Rlk1}
use Rattle.session_rules.specs.declared.call.Call.{Call}
use Rattle.session_rules.specs.declared.call.Call.TheVariants as call
use Rattle.session_rules.specs.declared.call.Entry.{Entry}
use Rattle.session_rules.specs.declared.reply.Reply.TheVariants as reply
use Rattle.session_rules.specs.declared.line.Line.{Line}
use Rattle.session_rules.specs.declared.line.Line.TheVariants as line
use Rattle.session_rules.specs.declared.state.CircuitState.TheVariants.{Idle, Answered}
use Rattle.session_rules.specs.declared.fixed.Fixed.{Fixed}
use Rattle.session_rules.specs.States.{seen}
use Rattle.session_rules.specs.Tasks.{Task, does, delivers, gives as gives_input, finishes as evaluates, returns as hands_back, exhausts, Held, Left, next_call, left, own}
use Rattle.session_rules.specs.Courses.{to_do, Follows, BreaksOff, lane_tasks, Settles, Unsettled, IsSerial, serial_run}
use Rattle.session_rows.proofs.Words.{frame, sum_of, any_two, one_two, asked, said, joins, leaves, owes, tells, counts, completes, gives, takes, finishes, returns, rests}
use Rattle.session_rows.proofs.Computed.{rules}

-- what is left of a line, with this in hand at first, where the gadget has seven rows
abbrev of_line : Option Held → Line → List Entry → Option Left
of_line hand l es = left 7 (record { hand = hand; tasks = does l ∷ [] }) es

-- nothing is left, and this is in hand
abbrev nothing_left : Option Held → Option Left
nothing_left hand = Some (record { hand = hand; tasks = [] })

abbrev is_left : Option Held → List Task → Option Left
is_left hand ts = Some (record { hand = hand; tasks = ts })

abbrev share : ℕ → ℕ → ℕ → Held
share id p rows = record { id = id; party = p; rows = rows }

-- ---- joining, and sending

pub one_call : of_line None (line.Join 1) (joins 1 ∷ []) ≡ nothing_left None
unfolding rules
one_call = refl

-- no call, another's, and two of them
pub no_call : of_line None (line.Join 1) [] ≡ is_left None (does (line.Join 1) ∷ [])
unfolding rules
no_call = refl

pub of_another : of_line None (line.Join 1) (joins 2 ∷ []) ≡ None
unfolding rules
of_another = refl

pub two_calls : of_line None (line.Join 1) (joins 1 ∷ joins 2 ∷ []) ≡ None
unfolding rules
two_calls = refl

-- only a caller's own entries are looked at
pub by_another : own 0 (joins 1 ∷ asked 1 (call.Join 2) reply.Joined ∷ joins 3 ∷ []) ≡ joins 1 ∷ joins 3 ∷ []
by_another = refl

-- a party that is absent sends nothing
pub sends_nothing : of_line None (line.Send 1) (said (call.Pending 1) reply.Absent ∷ []) ≡ nothing_left None
unfolding rules
sends_nothing = refl

-- one that owes a share of the first round of a product gives fourteen rows of it, and then its input
pub sends : of_line None (line.Send 1) (owes 1 (2 ∷ []) ((0, 1) ∷ []) ∷ tells 2 Rlk1 one_two ∷ counts 2 1 14 1 ∷ gives 0 1 ∷ []) ≡ nothing_left None
unfolding rules
sends = refl

-- of an instance that was given up meanwhile no share is delivered
pub sends_late : of_line None (line.Send 1) (owes 1 (2 ∷ []) [] ∷ said (call.Brief 2) (reply.Late 3) ∷ []) ≡ nothing_left None
unfolding rules
sends_late = refl

-- a share that is briefed is still to be delivered, and with as many rows as its signature has
pub keeps_its_share : of_line None (line.Send 1) (owes 1 (2 ∷ []) ((0, 1) ∷ []) ∷ tells 2 Rlk1 one_two ∷ []) ≡ is_left None (delivers (share 2 1 14) ∷ gives_input 0 1 ∷ [])
unfolding rules
keeps_its_share = refl

pub too_few_rows : of_line None (line.Send 1) (owes 1 (2 ∷ []) [] ∷ tells 2 Rlk1 one_two ∷ counts 2 1 7 1 ∷ []) ≡ None
unfolding rules
too_few_rows = refl

-- ---- what is in hand

-- what a party holds is in hand from then on, and nothing is where the brief was refused
pub holds : of_line None (line.Hold 1 2) (tells 2 Rlk1 one_two ∷ []) ≡ nothing_left (Some (share 2 1 14))
unfolding rules
holds = refl

pub holds_nothing : of_line (Some (share 1 1 1)) (line.Hold 1 2) (said (call.Brief 2) (reply.Unknown 1) ∷ []) ≡ nothing_left None
unfolding rules
holds_nothing = refl

-- the share in hand is delivered, and stays there; with none there is no call
pub hands : of_line (Some (share 1 2 1)) line.Give (completes 1 2 1 ∷ []) ≡ nothing_left (Some (share 1 2 1))
unfolding rules
hands = refl

pub hands_nothing : of_line None line.Give [] ≡ nothing_left None
unfolding rules
hands_nothing = refl

pub hands_unheld : of_line None line.Give (completes 1 2 1 ∷ []) ≡ None
unfolding rules
hands_unheld = refl

-- ---- work

-- a circuit that is taken is finished, or given back; with no job nothing more is called
pub works : of_line None line.Work (takes 3 ∷ finishes 3 ∷ []) ≡ nothing_left None
unfolding rules
works = refl

pub quits : of_line None line.Quit (takes 3 ∷ returns 3 ∷ []) ≡ nothing_left None
unfolding rules
quits = refl

pub has_no_work : of_line None line.Work (rests ∷ []) ≡ nothing_left None
unfolding rules
has_no_work = refl

-- who works doesn't give back, and has still to finish what it took
pub work_given_back : of_line None line.Work (takes 3 ∷ returns 3 ∷ []) ≡ None
unfolding rules
work_given_back = refl

pub work_begun : of_line None line.Work (takes 3 ∷ []) ≡ is_left None (evaluates 3 ∷ [])
unfolding rules
work_begun = refl

pub quit_begun : of_line None line.Quit (takes 3 ∷ []) ≡ is_left None (hands_back 3 ∷ [])
unfolding rules
quit_begun = refl

-- circuits are taken until there is none
abbrev until_none : List Entry → Option Left
until_none es = left 7 (to_do (exhausts ∷ [])) es

pub no_work : until_none (rests ∷ []) ≡ nothing_left None
unfolding rules
no_work = refl

pub work : until_none (takes 0 ∷ finishes 0 ∷ rests ∷ []) ≡ nothing_left None
unfolding rules
work = refl

pub stops_early : until_none (takes 0 ∷ finishes 0 ∷ []) ≡ is_left None (exhausts ∷ [])
unfolding rules
stops_early = refl

pub asks_again : until_none (rests ∷ rests ∷ []) ≡ None
unfolding rules
asks_again = refl

-- ---- lanes: the hand is empty at first, and is kept from line to line

abbrev late : List Line
late = line.Hold 2 1 ∷ line.Lose 2 ∷ line.Join 2 ∷ line.Give ∷ []

pub follows : Follows 7 (lane_tasks late) (tells 1 Pk one_two ∷ leaves 2 ∷ joins 2 ∷ said (call.Deliver 1 2 1) (reply.Late 2) ∷ [])
unfolding rules
follows = record { hand = Some (share 1 2 1); follows = refl }

-- how many tasks are left
abbrev tasks_left : Option Left → ℕ
tasks_left None = 0
tasks_left (Some todo) = length todo.tasks

abbrev one_if_there : Option Left → ℕ
one_if_there None = 0
one_if_there (Some todo) = 1

-- the first calls alone don't follow a lane, and nor do more calls than its own
pub begun_follows : Follows 7 (lane_tasks (line.Join 1 ∷ line.Give ∷ [])) [] → ⊥
unfolding rules
begun_follows f = let tasks : 2 ≡ 0 = ap tasks_left f.follows in absurd (omega (arith, tasks))

pub more_follows : Follows 7 (lane_tasks (line.Join 1 ∷ [])) (joins 1 ∷ joins 1 ∷ []) → ⊥
unfolding rules
more_follows f = let there : 0 ≡ 1 = ap one_if_there f.follows in absurd (omega (arith, there))

-- it breaks off where its share would be delivered
pub breaks_off : BreaksOff 7 (lane_tasks late) (tells 1 Pk one_two ∷ leaves 2 ∷ joins 2 ∷ []) (call.Deliver 1 2 1)
unfolding rules
breaks_off = record { rest = record { hand = Some (share 1 2 1); tasks = does line.Give ∷ [] }; begins = refl; more = refl }

-- with what another lane held a lane doesn't begin
pub begins_with_nothing : left 7 (record { hand = Some (share 1 2 1); tasks = lane_tasks (line.Give ∷ []) }) [] ≡ nothing_left None
unfolding rules
begins_with_nothing = refl

pub follows_no_line : left 7 (to_do (lane_tasks [])) (joins 1 ∷ []) ≡ None
unfolding rules
follows_no_line = refl

pub skips_a_line : left 7 (to_do (lane_tasks (line.Join 1 ∷ line.Give ∷ []))) [] ≡ is_left None (does (line.Join 1) ∷ does line.Give ∷ [])
unfolding rules
skips_a_line = refl

abbrev one_if_take : Option Call → ℕ
one_if_take (Some call.Take) = 1
one_if_take other = 0

abbrev one_if_take_next : Option Left → ℕ
one_if_take_next None = 0
one_if_take_next (Some todo) = one_if_take (next_call todo)

-- it doesn't at a call that isn't next
pub breaks_off_elsewhere : BreaksOff 7 (lane_tasks (line.Join 1 ∷ [])) [] call.Take → ⊥
unfolding rules
breaks_off_elsewhere b = let calls : 0 ≡ 1 = ap one_if_take_next b.begins ∙ ap one_if_take b.more in absurd (omega (arith, calls))

-- what was done to the end doesn't break off
pub done_breaks_off : BreaksOff 7 (lane_tasks (line.Join 1 ∷ [])) (joins 1 ∷ []) call.Take → ⊥
unfolding rules
done_breaks_off b = let over : Some (to_do []) ≡ Some b.rest = b.begins in let rest : to_do [] ≡ b.rest = cc in let none : None ≡ Some call.Take = ap next_call rest ∙ b.more in cc

-- ---- settling

-- a session of two of three parties for a circuit of the inputs of the parties 1 and 2
abbrev adding : Fixed
adding = any_two (sum_of (1 ∷ 2 ∷ []))

-- rounds end once all circuits are answered
pub settled : Settles 6 adding 0 (seen 7 [] [] (Answered ∷ [])) []
unfolding rules
settled = refl

pub goes_on_settled : Settles 6 adding 0 (seen 7 [] [] (Answered ∷ [])) (rests ∷ []) → ⊥
unfolding rules
goes_on_settled r = let lengths : 1 ≡ 0 = ap length r in absurd (omega (arith, lengths))

-- while one isn't, there is a round: nobody is present, and no circuit is ready
pub a_round : Settles 1 adding 0 (seen 0 [] ((false ∷ false ∷ []) ∷ []) (Idle ∷ [])) (rests ∷ [])
unfolding rules
a_round = (rests ∷ [], [], refl, record { hand = None; follows = refl }, refl)

no_round : (here rest : List Entry) → [] ≡ here ++ rest → Follows 7 (exhausts ∷ []) here → ⊥
unfolding rules
no_round [] rest parts f = let tasks : 1 ≡ 0 = ap tasks_left f.follows in absurd (omega (arith, tasks))
no_round (e ∷ es) rest parts f = let lengths : 0 ≡ suc (length (es ++ rest)) = ap length parts in absurd (omega (arith, lengths))

pub stops_unsettled : Settles 1 adding 0 (seen 0 [] ((false ∷ false ∷ []) ∷ []) (Idle ∷ [])) [] → ⊥
unfolding rules
stops_unsettled r = no_round r.0 r.1 r.2 r.3

-- with none it is broken off at the call that would be next
pub unsettled : Unsettled 1 adding 0 (seen 0 [] ((false ∷ false ∷ []) ∷ []) (Idle ∷ [])) [] call.Take
unfolding rules
unsettled = inl (record { rest = to_do (exhausts ∷ []); begins = refl; more = refl })

pub settled_is_settled : Unsettled 6 adding 0 (seen 7 [] [] (Answered ∷ [])) [] call.Take → ⊥
unfolding rules
settled_is_settled u = u

-- ---- the whole of a script: one party joins, and a lane gives what it hasn't in hand; there is no circuit

abbrev bare : Fixed
bare = record { numbers = frame; threshold = 2; rows = 7; plans = []; turns = [] }

pub serial_calls : IsSerial bare (1 ∷ []) ((line.Give ∷ []) ∷ []) (joins 1 ∷ [])
unfolding rules
serial_calls = record { acts = joins 1 ∷ []; settling = []; parts = refl; alone = refl; follows = record { hand = None; follows = refl }; settles = refl }

pub serial_history : serial_run 100 bare (1 ∷ []) ((line.Give ∷ []) ∷ []) ≡ joins 1 ∷ []
unfolding rules
serial_history = refl

-- by another caller it isn't the serial one
pub joined_by_another : IsSerial bare (1 ∷ []) [] (asked 1 (call.Join 1) reply.Joined ∷ []) → ⊥
joined_by_another s = let lengths : 0 ≡ 1 = ap length s.alone in absurd (omega (arith, lengths))
