-- Scripts in which parties are lost.
use Rattle.std.proofs.Common.{[], ◌∷◌, true, false, refl}
use Rattle.proto_names.specs.declared.signature.Signature.TheVariants.{Pk, Dec}
use Rattle.proto_names.specs.declared.instance.Stage.TheVariants.{Complete, Void}
use Rattle.session_rules.specs.declared.line.Line.TheVariants as line
use Rattle.session_rules.specs.declared.state.CircuitState.TheVariants.{Idle, Answered}
use Rattle.session_rules.specs.States.{seen}
use Rattle.session_rows.proofs.Words.{sum_of, any_two, all_three, Comes, none, one_two, one_three, issued, joins, leaves, owes, tells, counts, completes, gives, takes, finishes, rests}
use Rattle.session_rows.proofs.Computed.{rules}

-- party 2 is lost before it sent: its instance is given up, and is issued anew to others
pub loses_before_sending : Comes (any_two (sum_of (1 ∷ 3 ∷ []))) all_three ((line.Lose 2 ∷ []) ∷ []) (
    joins 1 ∷ joins 2 ∷ joins 3 ∷ leaves 2 ∷
    owes 1 (2 ∷ []) [] ∷ tells 2 Pk one_three ∷ counts 2 1 1 1 ∷
    owes 3 (2 ∷ []) [] ∷ tells 2 Pk one_three ∷ completes 2 3 1 ∷
    rests ∷
    owes 1 [] ((0, 0) ∷ []) ∷ gives 0 0 ∷
    owes 3 [] ((0, 1) ∷ []) ∷ gives 0 1 ∷
    takes 0 ∷ finishes 0 ∷ rests ∷
    owes 1 (3 ∷ []) [] ∷ tells 3 (Dec 0) one_three ∷ counts 3 1 1 1 ∷
    owes 3 (3 ∷ []) [] ∷ tells 3 (Dec 0) one_three ∷ completes 3 3 1 ∷
    rests ∷ [])
    (seen 5 (
    issued 1 Pk one_two 1 none (Void 2) 0 ∷
    issued 2 Pk one_three 2 one_three Complete 0 ∷
    issued 3 (Dec 0) one_three 1 one_three Complete 0 ∷ []) ((true ∷ true ∷ []) ∷ []) (Answered ∷ []))
unfolding rules
loses_before_sending = (refl, refl, refl)

-- party 2 is lost after it sent: the instance goes on, and is completed by party 1
pub loses_after_sending : Comes (any_two (sum_of (1 ∷ 3 ∷ []))) all_three ((line.Send 2 ∷ line.Lose 2 ∷ []) ∷ []) (
    joins 1 ∷ joins 2 ∷ joins 3 ∷
    owes 2 (1 ∷ []) [] ∷ tells 1 Pk one_two ∷ counts 1 2 1 1 ∷
    leaves 2 ∷
    owes 1 (1 ∷ []) [] ∷ tells 1 Pk one_two ∷ completes 1 1 1 ∷
    owes 3 [] ((0, 1) ∷ []) ∷ gives 0 1 ∷
    rests ∷
    owes 1 [] ((0, 0) ∷ []) ∷ gives 0 0 ∷
    owes 3 [] [] ∷
    takes 0 ∷ finishes 0 ∷ rests ∷
    owes 1 (2 ∷ []) [] ∷ tells 2 (Dec 0) one_three ∷ counts 2 1 1 1 ∷
    owes 3 (2 ∷ []) [] ∷ tells 2 (Dec 0) one_three ∷ completes 2 3 1 ∷
    rests ∷ [])
    (seen 5 (
    issued 1 Pk one_two 1 one_two Complete 0 ∷
    issued 2 (Dec 0) one_three 1 one_three Complete 0 ∷ []) ((true ∷ true ∷ []) ∷ []) (Answered ∷ []))
unfolding rules
loses_after_sending = (refl, refl, refl)

-- party 2 is lost while the decryption waits for its share: the decryption alone is issued anew
pub loses_between_decryptions : Comes (any_two (sum_of (1 ∷ 2 ∷ []))) all_three ((line.Send 1 ∷ line.Send 2 ∷ line.Send 1 ∷ line.Send 2 ∷ line.Work ∷ line.Lose 2 ∷ []) ∷ []) (
    joins 1 ∷ joins 2 ∷ joins 3 ∷
    owes 1 (1 ∷ []) [] ∷ tells 1 Pk one_two ∷ counts 1 1 1 1 ∷
    owes 2 (1 ∷ []) [] ∷ tells 1 Pk one_two ∷ completes 1 2 1 ∷
    owes 1 [] ((0, 0) ∷ []) ∷ gives 0 0 ∷
    owes 2 [] ((0, 1) ∷ []) ∷ gives 0 1 ∷
    takes 0 ∷ finishes 0 ∷
    leaves 2 ∷
    owes 1 (3 ∷ []) [] ∷ tells 3 (Dec 0) one_three ∷ counts 3 1 1 1 ∷
    owes 3 (3 ∷ []) [] ∷ tells 3 (Dec 0) one_three ∷ completes 3 3 1 ∷
    rests ∷ [])
    (seen 5 (
    issued 1 Pk one_two 1 one_two Complete 0 ∷
    issued 2 (Dec 0) one_two 1 none (Void 2) 0 ∷
    issued 3 (Dec 0) one_three 2 one_three Complete 0 ∷ []) ((true ∷ true ∷ []) ∷ []) (Answered ∷ []))
unfolding rules
loses_between_decryptions = (refl, refl, refl)

-- two of three parties are lost: both instances are given up, and the circuit is open after six rounds
pub loses_too_many : Comes (any_two (sum_of (1 ∷ 2 ∷ []))) all_three ((line.Lose 2 ∷ line.Lose 3 ∷ []) ∷ []) (
    joins 1 ∷ joins 2 ∷ joins 3 ∷ leaves 2 ∷ leaves 3 ∷
    owes 1 [] [] ∷ rests ∷
    owes 1 [] [] ∷ rests ∷
    owes 1 [] [] ∷ rests ∷
    owes 1 [] [] ∷ rests ∷
    owes 1 [] [] ∷ rests ∷
    owes 1 [] [] ∷ rests ∷ [])
    (seen 1 (
    issued 1 Pk one_two 1 none (Void 2) 0 ∷
    issued 2 Pk one_three 2 none (Void 3) 0 ∷ []) ((false ∷ false ∷ []) ∷ []) (Idle ∷ []))
unfolding rules
loses_too_many = (refl, refl, refl)
