-- Scripts without lanes and without a product: all that are present give what they owe until the circuit is answered.
use Rattle.std.proofs.Common.{[], ◌∷◌, true, false, refl}
use Rattle.proto_names.specs.declared.signature.Signature.TheVariants.{Pk, Dec}
use Rattle.proto_names.specs.declared.instance.Stage.TheVariants.{Complete}
use Rattle.noise_ledger.specs.declared.over.Place.TheVariants.{Node, Output}
use Rattle.session_rules.specs.declared.line.Line.TheVariants as line
use Rattle.session_rules.specs.declared.state.CircuitState.TheVariants.{Refused, Idle, Answered}
use Rattle.session_rules.specs.States.{seen}
use Rattle.session_rows.proofs.Words.{sum_of, constant, session, any_two, all_three, Comes, one, one_two, refused_alone, flooded, issued, joins, owes, tells, counts, completes, gives, takes, finishes, rests}
use Rattle.session_rows.proofs.Computed.{rules}

-- two of three parties give an input each, and nobody is lost
pub adds : Comes (any_two (sum_of (1 ∷ 2 ∷ []))) all_three [] (
    joins 1 ∷ joins 2 ∷ joins 3 ∷
    owes 1 (1 ∷ []) [] ∷ tells 1 Pk one_two ∷ counts 1 1 1 1 ∷
    owes 2 (1 ∷ []) [] ∷ tells 1 Pk one_two ∷ completes 1 2 1 ∷
    owes 3 [] [] ∷ rests ∷
    owes 1 [] ((0, 0) ∷ []) ∷ gives 0 0 ∷
    owes 2 [] ((0, 1) ∷ []) ∷ gives 0 1 ∷
    owes 3 [] [] ∷
    takes 0 ∷ finishes 0 ∷ rests ∷
    owes 1 (2 ∷ []) [] ∷ tells 2 (Dec 0) one_two ∷ counts 2 1 1 1 ∷
    owes 2 (2 ∷ []) [] ∷ tells 2 (Dec 0) one_two ∷ completes 2 2 1 ∷
    owes 3 [] [] ∷ rests ∷ [])
    (seen 7 (
    issued 1 Pk one_two 1 one_two Complete 0 ∷
    issued 2 (Dec 0) one_two 1 one_two Complete 0 ∷ []) ((true ∷ true ∷ []) ∷ []) (Answered ∷ []))
unfolding rules
adds = (refl, refl, refl)

-- one party acts alone and gives both inputs
pub adds_alone : Comes (session 1 (sum_of (1 ∷ 1 ∷ []))) (1 ∷ []) [] (
    joins 1 ∷
    owes 1 (1 ∷ []) [] ∷ tells 1 Pk one ∷ completes 1 1 1 ∷
    rests ∷
    owes 1 [] ((0, 0) ∷ (0, 1) ∷ []) ∷ gives 0 0 ∷ gives 0 1 ∷
    takes 0 ∷ finishes 0 ∷ rests ∷
    owes 1 (2 ∷ []) [] ∷ tells 2 (Dec 0) one ∷ completes 2 1 1 ∷
    rests ∷ [])
    (seen 1 (
    issued 1 Pk one 1 one Complete 0 ∷
    issued 2 (Dec 0) one 1 one Complete 0 ∷ []) ((true ∷ true ∷ []) ∷ []) (Answered ∷ []))
unfolding rules
adds_alone = (refl, refl, refl)

-- a circuit without an input: no key is made, and its output alone is decrypted
pub evaluates_a_constant : Comes (any_two constant) all_three [] (
    joins 1 ∷ joins 2 ∷ joins 3 ∷
    owes 1 [] [] ∷
    owes 2 [] [] ∷
    owes 3 [] [] ∷
    takes 0 ∷ finishes 0 ∷ rests ∷
    owes 1 (1 ∷ []) [] ∷ tells 1 (Dec 0) one_two ∷ counts 1 1 1 1 ∷
    owes 2 (1 ∷ []) [] ∷ tells 1 (Dec 0) one_two ∷ completes 1 2 1 ∷
    owes 3 [] [] ∷ rests ∷ [])
    (seen 7 (
    issued 1 (Dec 0) one_two 1 one_two Complete 0 ∷ []) ([] ∷ []) (Answered ∷ []))
unfolding rules
evaluates_a_constant = (refl, refl, refl)

-- one party is present where two act: nothing is issued, and the circuit is open after six rounds
pub waits : Comes (any_two (sum_of (1 ∷ 2 ∷ []))) (1 ∷ []) [] (
    joins 1 ∷
    owes 1 [] [] ∷ rests ∷
    owes 1 [] [] ∷ rests ∷
    owes 1 [] [] ∷ rests ∷
    owes 1 [] [] ∷ rests ∷
    owes 1 [] [] ∷ rests ∷
    owes 1 [] [] ∷ rests ∷ [])
    (seen 1 [] ((false ∷ false ∷ []) ∷ []) (Idle ∷ []))
unfolding rules
waits = (refl, refl, refl)

-- the one circuit is refused: nothing is issued, and nobody is asked for anything
pub refuses_noise : Comes refused_alone all_three [] (
    joins 1 ∷ joins 2 ∷ joins 3 ∷ [])
    (seen 7 [] ((false ∷ false ∷ []) ∷ []) (Refused (Node 3) 111605518906659599873 985162418487295 ∷ []))
unfolding rules
refuses_noise = (refl, refl, refl)

-- a constant whose decryption would be too noisy: it is refused, and no call takes it
pub refuses_flood : Comes flooded (1 ∷ []) ((line.Work ∷ line.Quit ∷ []) ∷ []) (
    joins 1 ∷
    rests ∷ rests ∷ [])
    (seen 1 [] ([] ∷ []) (Refused Output 240514433191 240514433190 ∷ []))
unfolding rules
refuses_flood = (refl, refl, refl)
