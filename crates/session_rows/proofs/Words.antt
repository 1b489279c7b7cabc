-- Short words for numbers of parameters, for scripts, for the calls of caller 0 with their replies, and for the
-- instances of a session.
use Rattle.std.specs.Prelude.{◌≡◌, ℕ, List, [], ◌∷◌, ◌++◌, map, true, false}
use Rattle.param_set.specs.Numbers.{Numbers}
use Rattle.circuit_form.specs.declared.node.Node.{Node}
use Rattle.circuit_form.specs.declared.node.Node.TheVariants.{Input, Const, Add, Mul, Rot}
use Rattle.proto_names.specs.declared.signature.Signature.{Signature}
use Rattle.proto_names.specs.declared.sets.PartySet.{PartySet}
use Rattle.proto_names.specs.declared.instance.Instance.{Instance}
use Rattle.proto_names.specs.declared.instance.Stage.{Stage}
use Rattle.noise_ledger.specs.declared.over.Place.TheVariants as place
use Rattle.session_rules.specs.declared.call.Call.{Call}
use Rattle.session_rules.specs.declared.call.Call.TheVariants as call
use Rattle.session_rules.specs.declared.call.Entry.{Entry}
use Rattle.session_rules.specs.declared.reply.Reply.{Reply}
use Rattle.session_rules.specs.declared.reply.Reply.TheVariants as reply
use Rattle.session_rules.specs.declared.line.Line.{Line}
use Rattle.session_rules.specs.declared.state.CircuitState.{CircuitState}
use Rattle.session_rules.specs.declared.state.CircuitState.TheVariants.{Refused, Idle}
use Rattle.session_rules.specs.declared.fixed.Plan.{Plan}
use Rattle.session_rules.specs.declared.fixed.Fixed.{Fixed}
use Rattle.session_rules.specs.States.{State}
use Rattle.session_rules.specs.Histories.{state_after, IsLegal}
use Rattle.session_rules.specs.Courses.{serial_run}

-- ---- numbers

-- those of a ring of 8 coefficients modulo 31525197391593473, with plaintexts modulo 16, where two of three parties
-- act
abbrev pub frame : Numbers
frame = record { n = 8; q = 31525197391593473; t = 16; digit_bits = 8; balanced = false; err = 1; flood = 1; parties = 3; threshold = 2 }

-- those of a ring of 1024 coefficients
abbrev pub larger : Numbers
larger = record { n = 1024; q = 31525197391593473; t = 16; digit_bits = 8; balanced = false; err = 8; flood = 1048576; parties = 3; threshold = 2 }

-- those of one party, with plaintexts modulo 65537, where the flood of a decryption is above the limit
abbrev pub flooding : Numbers
flooding = record { n = 8; q = 31525197391593473; t = 65537; digit_bits = 8; balanced = false; err = 1; flood = 240514433191; parties = 1; threshold = 1 }

-- ---- scripts

-- an admitted circuit without a product of two of its inputs: its nodes, the owners of its inputs and its rotations
abbrev pub linear : List Node → List ℕ → List ℕ → Plan
linear nodes owners turns = record { nodes = nodes; owners = owners; product = false; turns = turns; opening = Idle }

-- the sum of the first two inputs, where there are two and no more
abbrev pub added : List ℕ → List Node
added (a ∷ b ∷ []) = Add 0 1 ∷ []
added owners = []

-- the inputs of some parties, and of two their sum
abbrev pub sum_of : List ℕ → Plan
sum_of owners = linear (map Input owners ++ added owners) owners []

-- the product of the inputs of two parties
abbrev pub product_of : ℕ → ℕ → Plan
product_of a b = record { nodes = Input a ∷ Input b ∷ Mul 0 1 ∷ []; owners = a ∷ b ∷ []; product = true; turns = []; opening = Idle }

-- a constant
abbrev pub constant : Plan
constant = linear (Const (7 ∷ []) ∷ []) [] []

-- a rotation by g of a party's input
abbrev pub turned_by : ℕ → ℕ → Plan
turned_by g owner = linear (Input owner ∷ Rot g 0 ∷ []) (owner ∷ []) (g ∷ [])

-- a product of products that are rotated between, whose last node has too much noise
abbrev pub too_noisy : CircuitState
too_noisy = Refused (place.Node 6) 62170732878577645 985162418487295

abbrev pub noisy : Plan
noisy = record {
  nodes = Input 1 ∷ Input 2 ∷ Mul 0 1 ∷ Mul 2 2 ∷ Mul 3 3 ∷ Rot 7 4 ∷ Mul 5 5 ∷ [];
  owners = 1 ∷ 2 ∷ [];
  product = true;
  turns = 7 ∷ [];
  opening = too_noisy;
}

-- one circuit, of T parties that act, with a gadget of 7 rows
abbrev pub session : ℕ → Plan → Fixed
session threshold plan = record {
  numbers = record frame { threshold = threshold };
  threshold = threshold;
  rows = 7;
  plans = plan ∷ [];
  turns = plan.turns;
}

-- one of which any two parties act
abbrev pub any_two : Plan → Fixed
any_two plan = session 2 plan

-- three circuits of which any two parties act, the first of them refused
abbrev pub three_circuits : Fixed
three_circuits = record {
  numbers = frame;
  threshold = 2;
  rows = 7;
  plans =
      noisy ∷
      linear (Input 3 ∷ Rot 5 0 ∷ Rot 3 1 ∷ Rot 5 2 ∷ []) (3 ∷ []) (3 ∷ 5 ∷ []) ∷
      linear (Input 3 ∷ Input 3 ∷ Add 0 1 ∷ Rot 3 2 ∷ []) (3 ∷ 3 ∷ []) (3 ∷ []) ∷ [];
  turns = 3 ∷ 5 ∷ [];
}

-- one circuit with a product of a product, which is refused in a larger ring
abbrev pub refused_alone : Fixed
refused_alone = record {
  numbers = larger;
  threshold = 2;
  rows = 7;
  plans = record {
    nodes = Input 1 ∷ Input 2 ∷ Mul 0 1 ∷ Mul 2 2 ∷ [];
    owners = 1 ∷ 2 ∷ [];
    product = true;
    turns = [];
    opening = Refused (place.Node 3) 111605518906659599873 985162418487295;
  } ∷ [];
  turns = [];
}

-- one constant and one party, where the flood of a decryption is above the limit
abbrev pub flooded : Fixed
flooded = record {
  numbers = flooding;
  threshold = 1;
  rows = 7;
  plans = record constant { opening = Refused place.Output 240514433191 240514433190 } ∷ [];
  turns = [];
}

-- two constants and four parties, of which any two act
abbrev pub two_constants : Fixed
two_constants = record {
  numbers = record frame { parties = 4 };
  threshold = 2;
  rows = 7;
  plans = constant ∷ constant ∷ [];
  turns = [];
}

-- the parties that join at first
abbrev pub all_three : List ℕ
all_three = 1 ∷ 2 ∷ 3 ∷ []

-- the serial history of a script has these calls, it leads to this state, and it is legal: played again from
-- the opening state, each call gets the reply that stands beside it
abbrev pub Comes : Fixed → List ℕ → List (List Line) → List Entry → State → Type 0
Comes f present lanes es s =
    (serial_run 100 f present lanes ≡ es) × (state_after f es ≡ s) × IsLegal f es

-- a list of calls with their replies is a legal history, and leads to this state
abbrev pub Plays : Fixed → List Entry → State → Type 0
Plays f es s = IsLegal f es × (state_after f es ≡ s)

-- ---- sets and instances

abbrev pub parties : ℕ → PartySet
parties bits = record { bits = bits }

abbrev pub none : PartySet
none = parties 0

abbrev pub one : PartySet
one = parties 1

abbrev pub one_two : PartySet
one_two = parties 3

abbrev pub one_three : PartySet
one_three = parties 5

abbrev pub two_three : PartySet
two_three = parties 6

abbrev pub three_four : PartySet
three_four = parties 12

-- number, signature, parties, attempt, those that sent, stage, and the number of the first round; its group is
-- the first
abbrev pub issued : ℕ → Signature → PartySet → ℕ → PartySet → Stage → ℕ → Instance
issued id σ set attempt sent stage round1 =
    record { id = id; signature = σ; set = set; attempt = attempt; sent = sent; stage = stage; round1 = round1; group = 0 }

-- ---- calls with their replies

abbrev pub asked : ℕ → Call → Reply → Entry
asked who c r = record { caller = who; call = c; reply = r }

-- those of caller 0
abbrev pub said : Call → Reply → Entry
said c r = asked 0 c r

-- party p joins, and is lost
abbrev pub joins : ℕ → Entry
joins p = said (call.Join p) reply.Joined

abbrev pub leaves : ℕ → Entry
leaves p = said (call.Lose p) reply.Left

-- party p owes shares of some instances, and some inputs
abbrev pub owes : ℕ → List ℕ → List (ℕ × ℕ) → Entry
owes p ids inputs = said (call.Pending p) (reply.List ids inputs)

-- an instance is of a signature and of some parties
abbrev pub tells : ℕ → Signature → PartySet → Entry
tells id σ set = said (call.Brief id) (reply.Brief σ set)

-- the share of party p for an instance, of so many polynomials, is counted, and some are missing; or it is
-- the last
abbrev pub counts : ℕ → ℕ → ℕ → ℕ → Entry
counts id p rows missing = said (call.Deliver id p rows) (reply.Counted missing)

abbrev pub completes : ℕ → ℕ → ℕ → Entry
completes id p rows = said (call.Deliver id p rows) reply.Completed

-- input k of circuit c is given
abbrev pub gives : ℕ → ℕ → Entry
gives c k = said (call.Input c k) reply.Given

-- circuit c is taken, finished, given back; and there is none to take
abbrev pub takes : ℕ → Entry
takes c = said call.Take (reply.Job c)

abbrev pub finishes : ℕ → Entry
finishes c = said (call.Finish c) reply.Finished

abbrev pub returns : ℕ → Entry
returns c = said (call.GiveBack c) reply.Returned

abbrev pub rests : Entry
rests = said call.Take reply.Nothing
