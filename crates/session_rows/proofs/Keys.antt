-- Scripts whose circuits need further keys.
use Rattle.std.proofs.Common.{[], ◌∷◌, true, false, refl}
use Rattle.proto_names.specs.declared.signature.Signature.TheVariants.{Pk, Rlk1, Rlk2, Rot, Dec}
use Rattle.proto_names.specs.declared.instance.Stage.TheVariants.{Complete, Void}
use Rattle.session_rules.specs.declared.line.Line.TheVariants as line
use Rattle.session_rules.specs.declared.state.CircuitState.TheVariants.{Answered}
use Rattle.session_rules.specs.States.{seen}
use Rattle.session_rows.proofs.Words.{product_of, turned_by, too_noisy, session, any_two, three_circuits, all_three, Comes, parties, none, one, one_two, one_three, two_three, issued, joins, leaves, owes, tells, counts, completes, gives, takes, finishes, rests}
use Rattle.session_rows.proofs.Computed.{rules}

-- the inputs of two parties are multiplied: the key for it takes two rounds of the same parties
pub multiplies : Comes (any_two (product_of 1 2)) all_three [] (
    joins 1 ∷ joins 2 ∷ joins 3 ∷
    owes 1 (1 ∷ 2 ∷ []) [] ∷ tells 1 Pk one_two ∷ counts 1 1 1 1 ∷ tells 2 Rlk1 one_two ∷ counts 2 1 14 1 ∷
    owes 2 (1 ∷ 2 ∷ []) [] ∷ tells 1 Pk one_two ∷ completes 1 2 1 ∷ tells 2 Rlk1 one_two ∷ completes 2 2 14 ∷
    owes 3 [] [] ∷ rests ∷
    owes 1 (3 ∷ []) ((0, 0) ∷ []) ∷ tells 3 Rlk2 one_two ∷ counts 3 1 14 1 ∷ gives 0 0 ∷
    owes 2 (3 ∷ []) ((0, 1) ∷ []) ∷ tells 3 Rlk2 one_two ∷ completes 3 2 14 ∷ gives 0 1 ∷
    owes 3 [] [] ∷
    takes 0 ∷ finishes 0 ∷ rests ∷
    owes 1 (4 ∷ []) [] ∷ tells 4 (Dec 0) one_two ∷ counts 4 1 1 1 ∷
    owes 2 (4 ∷ []) [] ∷ tells 4 (Dec 0) one_two ∷ completes 4 2 1 ∷
    owes 3 [] [] ∷ rests ∷ [])
    (seen 7 (
    issued 1 Pk one_two 1 one_two Complete 0 ∷
    issued 2 Rlk1 one_two 1 one_two Complete 0 ∷
    issued 3 Rlk2 one_two 1 one_two Complete 2 ∷
    issued 4 (Dec 0) one_two 1 one_two Complete 0 ∷ []) ((true ∷ true ∷ []) ∷ []) (Answered ∷ []))
unfolding rules
multiplies = (refl, refl, refl)

-- an input is rotated by 3
pub rotates : Comes (any_two (turned_by 3 1)) all_three [] (
    joins 1 ∷ joins 2 ∷ joins 3 ∷
    owes 1 (1 ∷ 2 ∷ []) [] ∷ tells 1 Pk one_two ∷ counts 1 1 1 1 ∷ tells 2 (Rot 3) one_two ∷ counts 2 1 7 1 ∷
    owes 2 (1 ∷ 2 ∷ []) [] ∷ tells 1 Pk one_two ∷ completes 1 2 1 ∷ tells 2 (Rot 3) one_two ∷
    completes 2 2 7 ∷
    owes 3 [] [] ∷ rests ∷
    owes 1 [] ((0, 0) ∷ []) ∷ gives 0 0 ∷
    owes 2 [] [] ∷
    owes 3 [] [] ∷
    takes 0 ∷ finishes 0 ∷ rests ∷
    owes 1 (3 ∷ []) [] ∷ tells 3 (Dec 0) one_two ∷ counts 3 1 1 1 ∷
    owes 2 (3 ∷ []) [] ∷ tells 3 (Dec 0) one_two ∷ completes 3 2 1 ∷
    owes 3 [] [] ∷ rests ∷ [])
    (seen 7 (
    issued 1 Pk one_two 1 one_two Complete 0 ∷
    issued 2 (Rot 3) one_two 1 one_two Complete 0 ∷
    issued 3 (Dec 0) one_two 1 one_two Complete 0 ∷ []) ((true ∷ []) ∷ []) (Answered ∷ []))
unfolding rules
rotates = (refl, refl, refl)

-- party 2 is lost after the first round for a product is complete: both rounds are given up, and are issued
-- anew to others
pub loses_between_rounds : Comes (any_two (product_of 1 3)) all_three ((line.Send 1 ∷ line.Send 2 ∷ line.Lose 2 ∷ []) ∷ []) (
    joins 1 ∷ joins 2 ∷ joins 3 ∷
    owes 1 (1 ∷ 2 ∷ []) [] ∷ tells 1 Pk one_two ∷ counts 1 1 1 1 ∷ tells 2 Rlk1 one_two ∷ counts 2 1 14 1 ∷
    owes 2 (1 ∷ 2 ∷ []) [] ∷ tells 1 Pk one_two ∷ completes 1 2 1 ∷ tells 2 Rlk1 one_two ∷ completes 2 2 14 ∷
    leaves 2 ∷
    owes 1 (4 ∷ []) ((0, 0) ∷ []) ∷ tells 4 Rlk1 one_three ∷ counts 4 1 14 1 ∷ gives 0 0 ∷
    owes 3 (4 ∷ []) ((0, 1) ∷ []) ∷ tells 4 Rlk1 one_three ∷ completes 4 3 14 ∷ gives 0 1 ∷
    rests ∷
    owes 1 (5 ∷ []) [] ∷ tells 5 Rlk2 one_three ∷ counts 5 1 14 1 ∷
    owes 3 (5 ∷ []) [] ∷ tells 5 Rlk2 one_three ∷ completes 5 3 14 ∷
    takes 0 ∷ finishes 0 ∷ rests ∷
    owes 1 (6 ∷ []) [] ∷ tells 6 (Dec 0) one_three ∷ counts 6 1 1 1 ∷
    owes 3 (6 ∷ []) [] ∷ tells 6 (Dec 0) one_three ∷ completes 6 3 1 ∷
    rests ∷ [])
    (seen 5 (
    issued 1 Pk one_two 1 one_two Complete 0 ∷
    issued 2 Rlk1 one_two 1 one_two (Void 2) 0 ∷
    issued 3 Rlk2 one_two 1 none (Void 2) 2 ∷
    issued 4 Rlk1 one_three 2 one_three Complete 0 ∷
    issued 5 Rlk2 one_three 2 one_three Complete 4 ∷
    issued 6 (Dec 0) one_three 1 one_three Complete 0 ∷ []) ((true ∷ true ∷ []) ∷ []) (Answered ∷ []))
unfolding rules
loses_between_rounds = (refl, refl, refl)

-- party 1 gives its share of the first round and is lost, and then the round is completed: it is given up,
-- since its second round wants the same parties
pub loses_after_first_round : Comes (any_two (product_of 2 3)) all_three ((line.Send 1 ∷ line.Lose 1 ∷ line.Send 2 ∷ []) ∷ []) (
    joins 1 ∷ joins 2 ∷ joins 3 ∷
    owes 1 (1 ∷ 2 ∷ []) [] ∷ tells 1 Pk one_two ∷ counts 1 1 1 1 ∷ tells 2 Rlk1 one_two ∷ counts 2 1 14 1 ∷
    leaves 1 ∷
    owes 2 (1 ∷ 2 ∷ []) [] ∷ tells 1 Pk one_two ∷ completes 1 2 1 ∷ tells 2 Rlk1 one_two ∷ completes 2 2 14 ∷
    owes 2 (3 ∷ []) ((0, 0) ∷ []) ∷ tells 3 Rlk1 two_three ∷ counts 3 2 14 1 ∷ gives 0 0 ∷
    owes 3 (3 ∷ []) ((0, 1) ∷ []) ∷ tells 3 Rlk1 two_three ∷ completes 3 3 14 ∷ gives 0 1 ∷
    rests ∷
    owes 2 (4 ∷ []) [] ∷ tells 4 Rlk2 two_three ∷ counts 4 2 14 1 ∷
    owes 3 (4 ∷ []) [] ∷ tells 4 Rlk2 two_three ∷ completes 4 3 14 ∷
    takes 0 ∷ finishes 0 ∷ rests ∷
    owes 2 (5 ∷ []) [] ∷ tells 5 (Dec 0) two_three ∷ counts 5 2 1 1 ∷
    owes 3 (5 ∷ []) [] ∷ tells 5 (Dec 0) two_three ∷ completes 5 3 1 ∷
    rests ∷ [])
    (seen 6 (
    issued 1 Pk one_two 1 one_two Complete 0 ∷
    issued 2 Rlk1 one_two 1 one_two (Void 1) 0 ∷
    issued 3 Rlk1 two_three 2 two_three Complete 0 ∷
    issued 4 Rlk2 two_three 1 two_three Complete 3 ∷
    issued 5 (Dec 0) two_three 1 two_three Complete 0 ∷ []) ((true ∷ true ∷ []) ∷ []) (Answered ∷ []))
unfolding rules
loses_after_first_round = (refl, refl, refl)

-- all three parties act; two give their shares of the first round and are lost, and then it is completed: it
-- is given up by the lesser of the two
pub loses_two_after_first_round : Comes (session 3 (product_of 1 2)) all_three ((line.Send 1 ∷ line.Send 2 ∷ line.Lose 2 ∷ line.Lose 1 ∷ line.Send 3 ∷ line.Join 2 ∷ line.Join 1 ∷ []) ∷ []) (
    joins 1 ∷ joins 2 ∷ joins 3 ∷
    owes 1 (1 ∷ 2 ∷ []) [] ∷ tells 1 Pk (parties 7) ∷ counts 1 1 1 2 ∷ tells 2 Rlk1 (parties 7) ∷
    counts 2 1 14 2 ∷
    owes 2 (1 ∷ 2 ∷ []) [] ∷ tells 1 Pk (parties 7) ∷ counts 1 2 1 1 ∷ tells 2 Rlk1 (parties 7) ∷
    counts 2 2 14 1 ∷
    leaves 2 ∷ leaves 1 ∷
    owes 3 (1 ∷ 2 ∷ []) [] ∷ tells 1 Pk (parties 7) ∷ completes 1 3 1 ∷ tells 2 Rlk1 (parties 7) ∷
    completes 2 3 14 ∷
    joins 2 ∷ joins 1 ∷
    owes 1 (3 ∷ []) ((0, 0) ∷ []) ∷ tells 3 Rlk1 (parties 7) ∷ counts 3 1 14 2 ∷ gives 0 0 ∷
    owes 2 (3 ∷ []) ((0, 1) ∷ []) ∷ tells 3 Rlk1 (parties 7) ∷ counts 3 2 14 1 ∷ gives 0 1 ∷
    owes 3 (3 ∷ []) [] ∷ tells 3 Rlk1 (parties 7) ∷ completes 3 3 14 ∷
    rests ∷
    owes 1 (4 ∷ []) [] ∷ tells 4 Rlk2 (parties 7) ∷ counts 4 1 14 2 ∷
    owes 2 (4 ∷ []) [] ∷ tells 4 Rlk2 (parties 7) ∷ counts 4 2 14 1 ∷
    owes 3 (4 ∷ []) [] ∷ tells 4 Rlk2 (parties 7) ∷ completes 4 3 14 ∷
    takes 0 ∷ finishes 0 ∷ rests ∷
    owes 1 (5 ∷ []) [] ∷ tells 5 (Dec 0) (parties 7) ∷ counts 5 1 1 2 ∷
    owes 2 (5 ∷ []) [] ∷ tells 5 (Dec 0) (parties 7) ∷ counts 5 2 1 1 ∷
    owes 3 (5 ∷ []) [] ∷ tells 5 (Dec 0) (parties 7) ∷ completes 5 3 1 ∷
    rests ∷ [])
    (seen 7 (
    issued 1 Pk (parties 7) 1 (parties 7) Complete 0 ∷
    issued 2 Rlk1 (parties 7) 1 (parties 7) (Void 1) 0 ∷
    issued 3 Rlk1 (parties 7) 2 (parties 7) Complete 0 ∷
    issued 4 Rlk2 (parties 7) 1 (parties 7) Complete 3 ∷
    issued 5 (Dec 0) (parties 7) 1 (parties 7) Complete 0 ∷ []) ((true ∷ true ∷ []) ∷ []) (Answered ∷ []))
unfolding rules
loses_two_after_first_round = (refl, refl, refl)

-- party 1 gave its share of the second round and is lost, and then party 2, which lacks it: both rounds are
-- given up by party 2
pub loses_in_second_round : Comes (any_two (product_of 1 2)) all_three ((line.Send 1 ∷ line.Send 2 ∷ line.Send 1 ∷ line.Lose 1 ∷ line.Lose 2 ∷ line.Join 1 ∷ line.Join 2 ∷ []) ∷ []) (
    joins 1 ∷ joins 2 ∷ joins 3 ∷
    owes 1 (1 ∷ 2 ∷ []) [] ∷ tells 1 Pk one_two ∷ counts 1 1 1 1 ∷ tells 2 Rlk1 one_two ∷ counts 2 1 14 1 ∷
    owes 2 (1 ∷ 2 ∷ []) [] ∷ tells 1 Pk one_two ∷ completes 1 2 1 ∷ tells 2 Rlk1 one_two ∷ completes 2 2 14 ∷
    owes 1 (3 ∷ []) ((0, 0) ∷ []) ∷ tells 3 Rlk2 one_two ∷ counts 3 1 14 1 ∷ gives 0 0 ∷
    leaves 1 ∷ leaves 2 ∷ joins 1 ∷ joins 2 ∷
    owes 1 (4 ∷ []) [] ∷ tells 4 Rlk1 one_three ∷ counts 4 1 14 1 ∷
    owes 2 [] ((0, 1) ∷ []) ∷ gives 0 1 ∷
    owes 3 (4 ∷ []) [] ∷ tells 4 Rlk1 one_three ∷ completes 4 3 14 ∷
    rests ∷
    owes 1 (5 ∷ []) [] ∷ tells 5 Rlk2 one_three ∷ counts 5 1 14 1 ∷
    owes 2 [] [] ∷
    owes 3 (5 ∷ []) [] ∷ tells 5 Rlk2 one_three ∷ completes 5 3 14 ∷
    takes 0 ∷ finishes 0 ∷ rests ∷
    owes 1 (6 ∷ []) [] ∷ tells 6 (Dec 0) one_two ∷ counts 6 1 1 1 ∷
    owes 2 (6 ∷ []) [] ∷ tells 6 (Dec 0) one_two ∷ completes 6 2 1 ∷
    owes 3 [] [] ∷ rests ∷ [])
    (seen 7 (
    issued 1 Pk one_two 1 one_two Complete 0 ∷
    issued 2 Rlk1 one_two 1 one_two (Void 2) 0 ∷
    issued 3 Rlk2 one_two 1 one (Void 2) 2 ∷
    issued 4 Rlk1 one_three 2 one_three Complete 0 ∷
    issued 5 Rlk2 one_three 2 one_three Complete 4 ∷
    issued 6 (Dec 0) one_two 1 one_two Complete 0 ∷ []) ((true ∷ true ∷ []) ∷ []) (Answered ∷ []))
unfolding rules
loses_in_second_round = (refl, refl, refl)

-- party 2 is lost once both rounds are complete: both stay
pub keeps_a_complete_key : Comes (any_two (product_of 1 3)) all_three ((line.Send 1 ∷ line.Send 2 ∷ line.Send 1 ∷ line.Send 2 ∷ line.Lose 2 ∷ []) ∷ []) (
    joins 1 ∷ joins 2 ∷ joins 3 ∷
    owes 1 (1 ∷ 2 ∷ []) [] ∷ tells 1 Pk one_two ∷ counts 1 1 1 1 ∷ tells 2 Rlk1 one_two ∷ counts 2 1 14 1 ∷
    owes 2 (1 ∷ 2 ∷ []) [] ∷ tells 1 Pk one_two ∷ completes 1 2 1 ∷ tells 2 Rlk1 one_two ∷ completes 2 2 14 ∷
    owes 1 (3 ∷ []) ((0, 0) ∷ []) ∷ tells 3 Rlk2 one_two ∷ counts 3 1 14 1 ∷ gives 0 0 ∷
    owes 2 (3 ∷ []) [] ∷ tells 3 Rlk2 one_two ∷ completes 3 2 14 ∷
    leaves 2 ∷
    owes 1 [] [] ∷
    owes 3 [] ((0, 1) ∷ []) ∷ gives 0 1 ∷
    takes 0 ∷ finishes 0 ∷ rests ∷
    owes 1 (4 ∷ []) [] ∷ tells 4 (Dec 0) one_three ∷ counts 4 1 1 1 ∷
    owes 3 (4 ∷ []) [] ∷ tells 4 (Dec 0) one_three ∷ completes 4 3 1 ∷
    rests ∷ [])
    (seen 5 (
    issued 1 Pk one_two 1 one_two Complete 0 ∷
    issued 2 Rlk1 one_two 1 one_two Complete 0 ∷
    issued 3 Rlk2 one_two 1 one_two Complete 2 ∷
    issued 4 (Dec 0) one_three 1 one_three Complete 0 ∷ []) ((true ∷ true ∷ []) ∷ []) (Answered ∷ []))
unfolding rules
keeps_a_complete_key = (refl, refl, refl)

-- the public key is complete and the input is given before the key of the rotation is: the circuit is not
-- ready
pub waits_for_a_rotation : Comes (any_two (turned_by 3 1)) all_three ((line.Hold 1 1 ∷ line.Give ∷ line.Hold 2 1 ∷ line.Give ∷ line.Send 1 ∷ line.Work ∷ []) ∷ []) (
    joins 1 ∷ joins 2 ∷ joins 3 ∷
    tells 1 Pk one_two ∷ counts 1 1 1 1 ∷ tells 1 Pk one_two ∷ completes 1 2 1 ∷
    owes 1 (2 ∷ []) ((0, 0) ∷ []) ∷ tells 2 (Rot 3) one_two ∷ counts 2 1 7 1 ∷ gives 0 0 ∷
    rests ∷
    owes 1 [] [] ∷
    owes 2 (2 ∷ []) [] ∷ tells 2 (Rot 3) one_two ∷ completes 2 2 7 ∷
    owes 3 [] [] ∷
    takes 0 ∷ finishes 0 ∷ rests ∷
    owes 1 (3 ∷ []) [] ∷ tells 3 (Dec 0) one_two ∷ counts 3 1 1 1 ∷
    owes 2 (3 ∷ []) [] ∷ tells 3 (Dec 0) one_two ∷ completes 3 2 1 ∷
    owes 3 [] [] ∷ rests ∷ [])
    (seen 7 (
    issued 1 Pk one_two 1 one_two Complete 0 ∷
    issued 2 (Rot 3) one_two 1 one_two Complete 0 ∷
    issued 3 (Dec 0) one_two 1 one_two Complete 0 ∷ []) ((true ∷ []) ∷ []) (Answered ∷ []))
unfolding rules
waits_for_a_rotation = (refl, refl, refl)

-- three circuits, of which the first is refused: what it alone needs is not issued, and its inputs are owed
-- by nobody; all else goes by rising rotations and by rising circuits. The first decryption is opened when the
-- second is issued: so that has party 3, which waits for nothing, and party 1
pub serves_many_circuits : Comes three_circuits all_three [] (
    joins 1 ∷ joins 2 ∷ joins 3 ∷
    owes 1 (1 ∷ 2 ∷ 3 ∷ []) [] ∷ tells 1 Pk one_two ∷ counts 1 1 1 1 ∷ tells 2 (Rot 3) one_two ∷
    counts 2 1 7 1 ∷ tells 3 (Rot 5) one_two ∷ counts 3 1 7 1 ∷
    owes 2 (1 ∷ 2 ∷ 3 ∷ []) [] ∷ tells 1 Pk one_two ∷ completes 1 2 1 ∷ tells 2 (Rot 3) one_two ∷
    completes 2 2 7 ∷ tells 3 (Rot 5) one_two ∷ completes 3 2 7 ∷
    owes 3 [] ((1, 0) ∷ (2, 0) ∷ (2, 1) ∷ []) ∷ gives 1 0 ∷ gives 2 0 ∷ gives 2 1 ∷
    takes 1 ∷ finishes 1 ∷
    takes 2 ∷ finishes 2 ∷ rests ∷
    owes 1 (4 ∷ 5 ∷ []) [] ∷ tells 4 (Dec 1) one_two ∷ counts 4 1 1 1 ∷ tells 5 (Dec 2) one_three ∷
    counts 5 1 1 1 ∷
    owes 2 (4 ∷ []) [] ∷ tells 4 (Dec 1) one_two ∷ completes 4 2 1 ∷
    owes 3 (5 ∷ []) [] ∷ tells 5 (Dec 2) one_three ∷ completes 5 3 1 ∷
    rests ∷ [])
    (seen 7 (
    issued 1 Pk one_two 1 one_two Complete 0 ∷
    issued 2 (Rot 3) one_two 1 one_two Complete 0 ∷
    issued 3 (Rot 5) one_two 1 one_two Complete 0 ∷
    issued 4 (Dec 1) one_two 1 one_two Complete 0 ∷
    issued 5 (Dec 2) one_three 1 one_three Complete 0 ∷ []) ((false ∷ false ∷ []) ∷ (true ∷ []) ∷ (true ∷ true ∷ []) ∷ []) (too_noisy ∷ Answered ∷ Answered ∷ []))
unfolding rules
serves_many_circuits = (refl, refl, refl)
