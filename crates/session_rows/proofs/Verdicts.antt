-- What the rules say to single calls, and what each deed makes of a state: what it changes by itself, and what is
-- issued with it.
use Rattle.std.proofs.Common.{◌≡◌, ℕ, List, [], ◌∷◌, true, false, Some, None, refl}
use Rattle.proto_names.specs.declared.signature.Signature.TheVariants.{Pk, Rlk1, Rlk2, Dec}
use Rattle.proto_names.specs.declared.sets.PartySet.{PartySet}
use Rattle.proto_names.specs.declared.instance.Instance.{Instance}
use Rattle.proto_names.specs.declared.instance.Stage.TheVariants.{Opened, Complete, Void}
use Rattle.session_rules.specs.declared.call.Call.TheVariants as call
use Rattle.session_rules.specs.declared.reply.Reply.TheVariants as reply
use Rattle.session_rules.specs.declared.deed.Deed.TheVariants.{Nothing, Joins, Loses, Counts, Gives, Turns}
use Rattle.session_rules.specs.declared.state.CircuitState.{CircuitState}
use Rattle.session_rules.specs.declared.state.CircuitState.TheVariants.{Idle, Taken, Evaluated, Answered}
use Rattle.session_rules.specs.declared.fixed.Fixed.{Fixed}
use Rattle.session_rules.specs.States.{State, seen}
use Rattle.session_rules.specs.Deeds.{leads_on, done, is_nothing, counts_for}
use Rattle.session_rules.specs.Steps.{says, does, judge}
use Rattle.session_rules.specs.Facts.{accepts}
use Rattle.session_rows.proofs.Words.{product_of, any_two, none, one, one_two, one_three, issued}
use Rattle.session_rows.proofs.Facts.{adding, waiting, complete}
use Rattle.session_rows.proofs.Computed.{rules}

-- these are present, and these instances are issued; no input is given
abbrev pub early : ℕ → List Instance → State
early present is = seen present is ((false ∷ false ∷ []) ∷ []) (Idle ∷ [])

-- there is a public key, both inputs are given, and the circuit has come so far
abbrev pub late : CircuitState → State
late now = seen 7 (complete ∷ []) ((true ∷ true ∷ []) ∷ []) (now ∷ [])

-- the public key of the parties 1 and 2, to which these sent
abbrev pub key : PartySet → Instance
key sent = issued 1 Pk one_two 1 sent Opened 0

-- ---- nothing

-- a call is refused, or only asks
pub refuses : judge adding (early 1 []) 0 (call.Join 1) ≡ says reply.Already
unfolding rules
refuses = refl

pub tells : judge adding (early 3 (key none ∷ [])) 0 (call.Brief 1) ≡ says (reply.Brief Pk one_two)
unfolding rules
tells = refl

-- and then nothing is issued, though a key is wanting
pub nothing : done adding Nothing (early 3 []) ≡ early 3 []
unfolding rules
nothing = refl

-- ---- a party joins, or is lost

-- with the second one the public key is issued
pub joins : judge adding (early 1 []) 0 (call.Join 2) ≡ does reply.Joined (Joins 2)
unfolding rules
joins = refl

pub first_is_there : done adding (Joins 1) (early 0 []) ≡ early 1 []
unfolding rules
first_is_there = refl

pub second_is_there : done adding (Joins 2) (early 1 []) ≡ early 3 (key none ∷ [])
unfolding rules
second_is_there = refl

-- with party 2, which hasn't sent, its instance is lost, and issued anew to others
pub loses : judge adding (early 7 (waiting ∷ [])) 0 (call.Lose 2) ≡ does reply.Left (Loses 2)
unfolding rules
loses = refl

pub one_is_lost : done adding (Loses 2) (early 7 (waiting ∷ [])) ≡ early 5 (issued 1 Pk one_two 1 one (Void 2) 0 ∷ issued 2 Pk one_three 2 none Opened 0 ∷ [])
unfolding rules
one_is_lost = refl

-- with party 1, which has sent, it is not
pub sender_is_lost : done adding (Loses 1) (early 7 (waiting ∷ [])) ≡ early 6 (waiting ∷ [])
unfolding rules
sender_is_lost = refl

-- a second round is lost together with its first, which is complete
abbrev multiplying : Fixed
multiplying = any_two (product_of 1 2)

pub both_rounds_are_lost : done multiplying (Loses 2) (early 7 (complete ∷ issued 2 Rlk1 one_two 1 one_two Complete 0 ∷ issued 3 Rlk2 one_two 1 one Opened 2 ∷ []))
    ≡ early 5 (complete ∷ issued 2 Rlk1 one_two 1 one_two (Void 2) 0 ∷ issued 3 Rlk2 one_two 1 one (Void 2) 2 ∷ issued 4 Rlk1 one_three 2 none Opened 0 ∷ [])
unfolding rules
both_rounds_are_lost = refl

-- ---- a share is counted

-- one is missing then
pub counts : judge adding (early 7 (key none ∷ [])) 0 (call.Deliver 1 1 1) ≡ does (reply.Counted 1) (Counts (key none) 1)
unfolding rules
counts = refl

pub one_is_counted : done adding (Counts (key none) 1) (early 7 (key none ∷ [])) ≡ early 7 (waiting ∷ [])
unfolding rules
one_is_counted = refl

-- and nothing is issued, though a decryption is wanting
pub counted_alone : done adding (Counts (key none) 1) (seen 7 (key none ∷ []) ((true ∷ true ∷ []) ∷ []) (Evaluated ∷ [])) ≡ seen 7 (waiting ∷ []) ((true ∷ true ∷ []) ∷ []) (Evaluated ∷ [])
unfolding rules
counted_alone = refl

-- it is the last one: the instance is complete
pub counts_the_last : judge adding (early 7 (waiting ∷ [])) 0 (call.Deliver 1 2 1) ≡ does reply.Completed (Counts waiting 2)
unfolding rules
counts_the_last = refl

pub last_is_counted : done adding (Counts waiting 2) (early 7 (waiting ∷ [])) ≡ early 7 (complete ∷ [])
unfolding rules
last_is_counted = refl

-- the last one of a first round: the second is issued to the same parties
pub round_is_over : done multiplying (Counts (issued 2 Rlk1 one_three 1 one Opened 0) 3) (early 7 (complete ∷ issued 2 Rlk1 one_three 1 one Opened 0 ∷ []))
    ≡ early 7 (complete ∷ issued 2 Rlk1 one_three 1 one_three Complete 0 ∷ issued 3 Rlk2 one_three 1 none Opened 2 ∷ [])
unfolding rules
round_is_over = refl

-- the last one of a decryption: its circuit is answered
pub circuit_is_answered : done adding (Counts (issued 2 (Dec 0) one_two 1 one Opened 0) 2) (seen 7 (complete ∷ issued 2 (Dec 0) one_two 1 one Opened 0 ∷ []) ((true ∷ true ∷ []) ∷ []) (Evaluated ∷ []))
    ≡ seen 7 (complete ∷ issued 2 (Dec 0) one_two 1 one_two Complete 0 ∷ []) ((true ∷ true ∷ []) ∷ []) (Answered ∷ [])
unfolding rules
circuit_is_answered = refl

-- ---- an input is given

pub gives : judge adding (early 7 (complete ∷ [])) 0 (call.Input 0 1) ≡ does reply.Given (Gives 0 1)
unfolding rules
gives = refl

pub one_is_given : done adding (Gives 0 1) (early 7 (complete ∷ [])) ≡ seen 7 (complete ∷ []) ((false ∷ true ∷ []) ∷ []) (Idle ∷ [])
unfolding rules
one_is_given = refl

-- and nothing is issued, though a key is wanting
pub given_alone : done adding (Gives 0 1) (early 7 []) ≡ seen 7 [] ((false ∷ true ∷ []) ∷ []) (Idle ∷ [])
unfolding rules
given_alone = refl

-- ---- a circuit is taken, evaluated, or given back

pub takes : judge adding (late Idle) 4 call.Take ≡ does (reply.Job 0) (Turns 0 (Taken 4))
unfolding rules
takes = refl

pub circuit_is_taken : done adding (Turns 0 (Taken 4)) (late Idle) ≡ late (Taken 4)
unfolding rules
circuit_is_taken = refl

-- once it is evaluated its decryption is issued
pub finishes : judge adding (late (Taken 4)) 4 (call.Finish 0) ≡ does reply.Finished (Turns 0 Evaluated)
unfolding rules
finishes = refl

pub circuit_is_evaluated : done adding (Turns 0 Evaluated) (late (Taken 4)) ≡ seen 7 (complete ∷ issued 2 (Dec 0) one_two 1 none Opened 0 ∷ []) ((true ∷ true ∷ []) ∷ []) (Evaluated ∷ [])
unfolding rules
circuit_is_evaluated = refl

pub gives_back : judge adding (late (Taken 4)) 4 (call.GiveBack 0) ≡ does reply.Returned (Turns 0 Idle)
unfolding rules
gives_back = refl

pub circuit_is_idle : done adding (Turns 0 Idle) (late (Taken 4)) ≡ late Idle
unfolding rules
circuit_is_idle = refl

-- with the other two nothing is issued, though a key is wanting
pub taken_alone : done adding (Turns 0 (Taken 4)) (early 7 []) ≡ seen 7 [] ((false ∷ false ∷ []) ∷ []) (Taken 4 ∷ [])
unfolding rules
taken_alone = refl

pub returned_alone : done adding (Turns 0 Idle) (seen 7 [] ((false ∷ false ∷ []) ∷ []) (Taken 4 ∷ [])) ≡ early 7 []
unfolding rules
returned_alone = refl

-- ---- which deed it is, which ones lead on, and which replies tell of one

pub deed_words : (is_nothing Nothing ≡ true) × (is_nothing (Joins 1) ≡ false) × (counts_for (Counts waiting 2) ≡ Some waiting) × (counts_for (Gives 0 1) ≡ None)
deed_words = (refl, refl, refl, refl)

pub deeds_that_lead_on : (leads_on Nothing ≡ false) × (leads_on (Joins 1) ≡ true) × (leads_on (Loses 1) ≡ true) × (leads_on (Counts (key none) 1) ≡ false) × (leads_on (Counts waiting 2) ≡ true)
    × (leads_on (Gives 0 1) ≡ false) × (leads_on (Turns 0 (Taken 4)) ≡ false) × (leads_on (Turns 0 Evaluated) ≡ true) × (leads_on (Turns 0 Idle) ≡ false)
unfolding rules
deeds_that_lead_on = (refl, refl, refl, refl, refl, refl, refl, refl, refl)

pub reply_words : (accepts reply.Joined ≡ true) × (accepts reply.Left ≡ true) × (accepts (reply.Counted 1) ≡ true) × (accepts reply.Completed ≡ true) × (accepts reply.Given ≡ true)
    × (accepts (reply.Job 0) ≡ true) × (accepts reply.Finished ≡ true) × (accepts reply.Returned ≡ true) × (accepts (reply.List [] []) ≡ false) × (accepts (reply.Brief Pk one_two) ≡ false)
    × (accepts reply.Repeat ≡ false) × (accepts reply.Nothing ≡ false)
reply_words = (refl, refl, refl, refl, refl, refl, refl, refl, refl, refl, refl, refl)
