-- Scripts whose lanes hold shares back, take circuits, and act one after the other.
use Rattle.std.proofs.Common.{[], ◌∷◌, true, refl}
use Rattle.proto_names.specs.declared.signature.Signature.TheVariants.{Pk, Rlk1, Rlk2, Dec}
use Rattle.proto_names.specs.declared.instance.Stage.TheVariants.{Complete, Void}
use Rattle.session_rules.specs.declared.call.Call.TheVariants as call
use Rattle.session_rules.specs.declared.reply.Reply.TheVariants as reply
use Rattle.session_rules.specs.declared.line.Line.TheVariants as line
use Rattle.session_rules.specs.declared.state.CircuitState.TheVariants.{Answered}
use Rattle.session_rules.specs.States.{seen}
use Rattle.session_rows.proofs.Words.{sum_of, product_of, constant, any_two, all_three, Comes, none, one, one_two, one_three, issued, said, joins, leaves, owes, tells, counts, completes, gives, takes, finishes, returns, rests}
use Rattle.session_rows.proofs.Computed.{rules}

-- party 1 gives its share twice: it is counted once
pub counts_once : Comes (any_two (sum_of (1 ∷ 2 ∷ []))) all_three ((line.Hold 1 1 ∷ line.Give ∷ line.Give ∷ []) ∷ []) (
    joins 1 ∷ joins 2 ∷ joins 3 ∷
    tells 1 Pk one_two ∷ counts 1 1 1 1 ∷ said (call.Deliver 1 1 1) reply.Repeat ∷
    owes 1 [] [] ∷
    owes 2 (1 ∷ []) [] ∷ tells 1 Pk one_two ∷ completes 1 2 1 ∷
    owes 3 [] [] ∷ rests ∷
    owes 1 [] ((0, 0) ∷ []) ∷ gives 0 0 ∷
    owes 2 [] ((0, 1) ∷ []) ∷ gives 0 1 ∷
    owes 3 [] [] ∷
    takes 0 ∷ finishes 0 ∷ rests ∷
    owes 1 (2 ∷ []) [] ∷ tells 2 (Dec 0) one_two ∷ counts 2 1 1 1 ∷
    owes 2 (2 ∷ []) [] ∷ tells 2 (Dec 0) one_two ∷ completes 2 2 1 ∷
    owes 3 [] [] ∷ rests ∷ [])
    (seen 7 (
    issued 1 Pk one_two 1 one_two Complete 0 ∷
    issued 2 (Dec 0) one_two 1 one_two Complete 0 ∷ []) ((true ∷ true ∷ []) ∷ []) (Answered ∷ []))
unfolding rules
counts_once = (refl, refl, refl)

-- party 2 makes its share, is lost, and joins again: the share is for an instance that was given up
pub comes_late : Comes (any_two (sum_of (1 ∷ 3 ∷ []))) all_three ((line.Hold 2 1 ∷ line.Lose 2 ∷ line.Join 2 ∷ line.Give ∷ []) ∷ []) (
    joins 1 ∷ joins 2 ∷ joins 3 ∷
    tells 1 Pk one_two ∷
    leaves 2 ∷ joins 2 ∷
    said (call.Deliver 1 2 1) (reply.Late 2) ∷
    owes 1 (2 ∷ []) [] ∷ tells 2 Pk one_three ∷ counts 2 1 1 1 ∷
    owes 2 [] [] ∷
    owes 3 (2 ∷ []) [] ∷ tells 2 Pk one_three ∷ completes 2 3 1 ∷
    rests ∷
    owes 1 [] ((0, 0) ∷ []) ∷ gives 0 0 ∷
    owes 2 [] [] ∷
    owes 3 [] ((0, 1) ∷ []) ∷ gives 0 1 ∷
    takes 0 ∷ finishes 0 ∷ rests ∷
    owes 1 (3 ∷ []) [] ∷ tells 3 (Dec 0) one_two ∷ counts 3 1 1 1 ∷
    owes 2 (3 ∷ []) [] ∷ tells 3 (Dec 0) one_two ∷ completes 3 2 1 ∷
    owes 3 [] [] ∷ rests ∷ [])
    (seen 7 (
    issued 1 Pk one_two 1 none (Void 2) 0 ∷
    issued 2 Pk one_three 2 one_three Complete 0 ∷
    issued 3 (Dec 0) one_two 1 one_two Complete 0 ∷ []) ((true ∷ true ∷ []) ∷ []) (Answered ∷ []))
unfolding rules
comes_late = (refl, refl, refl)

-- a circuit is taken and given back, and evaluated later
pub gives_back : Comes (any_two constant) all_three ((line.Quit ∷ []) ∷ []) (
    joins 1 ∷ joins 2 ∷ joins 3 ∷
    takes 0 ∷ returns 0 ∷
    owes 1 [] [] ∷
    owes 2 [] [] ∷
    owes 3 [] [] ∷
    takes 0 ∷ finishes 0 ∷ rests ∷
    owes 1 (1 ∷ []) [] ∷ tells 1 (Dec 0) one_two ∷ counts 1 1 1 1 ∷
    owes 2 (1 ∷ []) [] ∷ tells 1 (Dec 0) one_two ∷ completes 1 2 1 ∷
    owes 3 [] [] ∷ rests ∷ [])
    (seen 7 (
    issued 1 (Dec 0) one_two 1 one_two Complete 0 ∷ []) ([] ∷ []) (Answered ∷ []))
unfolding rules
gives_back = (refl, refl, refl)

-- party 3 gives a share for an instance in which it doesn't take part
pub is_a_stranger : Comes (any_two (sum_of (1 ∷ 2 ∷ []))) all_three ((line.Hold 3 1 ∷ line.Give ∷ []) ∷ []) (
    joins 1 ∷ joins 2 ∷ joins 3 ∷
    tells 1 Pk one_two ∷ said (call.Deliver 1 3 1) reply.Stranger ∷
    owes 1 (1 ∷ []) [] ∷ tells 1 Pk one_two ∷ counts 1 1 1 1 ∷
    owes 2 (1 ∷ []) [] ∷ tells 1 Pk one_two ∷ completes 1 2 1 ∷
    owes 3 [] [] ∷ rests ∷
    owes 1 [] ((0, 0) ∷ []) ∷ gives 0 0 ∷
    owes 2 [] ((0, 1) ∷ []) ∷ gives 0 1 ∷
    owes 3 [] [] ∷
    takes 0 ∷ finishes 0 ∷ rests ∷
    owes 1 (2 ∷ []) [] ∷ tells 2 (Dec 0) one_two ∷ counts 2 1 1 1 ∷
    owes 2 (2 ∷ []) [] ∷ tells 2 (Dec 0) one_two ∷ completes 2 2 1 ∷
    owes 3 [] [] ∷ rests ∷ [])
    (seen 7 (
    issued 1 Pk one_two 1 one_two Complete 0 ∷
    issued 2 (Dec 0) one_two 1 one_two Complete 0 ∷ []) ((true ∷ true ∷ []) ∷ []) (Answered ∷ []))
unfolding rules
is_a_stranger = (refl, refl, refl)

-- there is no instance 9: nothing is in hand, and no call is made for it
pub holds_nothing : Comes (any_two (sum_of (1 ∷ 2 ∷ []))) all_three ((line.Hold 1 9 ∷ line.Give ∷ []) ∷ []) (
    joins 1 ∷ joins 2 ∷ joins 3 ∷
    said (call.Brief 9) (reply.Unknown 1) ∷
    owes 1 (1 ∷ []) [] ∷ tells 1 Pk one_two ∷ counts 1 1 1 1 ∷
    owes 2 (1 ∷ []) [] ∷ tells 1 Pk one_two ∷ completes 1 2 1 ∷
    owes 3 [] [] ∷ rests ∷
    owes 1 [] ((0, 0) ∷ []) ∷ gives 0 0 ∷
    owes 2 [] ((0, 1) ∷ []) ∷ gives 0 1 ∷
    owes 3 [] [] ∷
    takes 0 ∷ finishes 0 ∷ rests ∷
    owes 1 (2 ∷ []) [] ∷ tells 2 (Dec 0) one_two ∷ counts 2 1 1 1 ∷
    owes 2 (2 ∷ []) [] ∷ tells 2 (Dec 0) one_two ∷ completes 2 2 1 ∷
    owes 3 [] [] ∷ rests ∷ [])
    (seen 7 (
    issued 1 Pk one_two 1 one_two Complete 0 ∷
    issued 2 (Dec 0) one_two 1 one_two Complete 0 ∷ []) ((true ∷ true ∷ []) ∷ []) (Answered ∷ []))
unfolding rules
holds_nothing = (refl, refl, refl)

-- there is no instance 9, so a share that was in hand is so no more; and a lane begins with nothing in hand
pub holds_one_lane_long : Comes (any_two (sum_of (1 ∷ 2 ∷ []))) all_three ((line.Hold 1 1 ∷ line.Hold 1 9 ∷ line.Give ∷ []) ∷ (line.Hold 2 1 ∷ []) ∷ (line.Give ∷ []) ∷ []) (
    joins 1 ∷ joins 2 ∷ joins 3 ∷
    tells 1 Pk one_two ∷ said (call.Brief 9) (reply.Unknown 1) ∷ tells 1 Pk one_two ∷
    owes 1 (1 ∷ []) [] ∷ tells 1 Pk one_two ∷ counts 1 1 1 1 ∷
    owes 2 (1 ∷ []) [] ∷ tells 1 Pk one_two ∷ completes 1 2 1 ∷
    owes 3 [] [] ∷ rests ∷
    owes 1 [] ((0, 0) ∷ []) ∷ gives 0 0 ∷
    owes 2 [] ((0, 1) ∷ []) ∷ gives 0 1 ∷
    owes 3 [] [] ∷
    takes 0 ∷ finishes 0 ∷ rests ∷
    owes 1 (2 ∷ []) [] ∷ tells 2 (Dec 0) one_two ∷ counts 2 1 1 1 ∷
    owes 2 (2 ∷ []) [] ∷ tells 2 (Dec 0) one_two ∷ completes 2 2 1 ∷
    owes 3 [] [] ∷ rests ∷ [])
    (seen 7 (
    issued 1 Pk one_two 1 one_two Complete 0 ∷
    issued 2 (Dec 0) one_two 1 one_two Complete 0 ∷ []) ((true ∷ true ∷ []) ∷ []) (Answered ∷ []))
unfolding rules
holds_one_lane_long = (refl, refl, refl)

-- four lanes and two of three lines of work, one after the other, for a product: party 2 and party 3 are
-- lost and join again, and party 1 holds a share of an instance that was given up
pub serves_lanes : Comes (any_two (product_of 1 2)) all_three ((line.Send 1 ∷ line.Lose 2 ∷ line.Join 2 ∷ []) ∷ (line.Send 2 ∷ line.Send 3 ∷ []) ∷ (line.Lose 3 ∷ line.Join 3 ∷ []) ∷ (line.Hold 1 1 ∷ line.Give ∷ line.Give ∷ []) ∷ (line.Work ∷ line.Work ∷ line.Work ∷ []) ∷ (line.Work ∷ line.Work ∷ line.Work ∷ []) ∷ []) (
    joins 1 ∷ joins 2 ∷ joins 3 ∷
    owes 1 (1 ∷ 2 ∷ []) [] ∷ tells 1 Pk one_two ∷ counts 1 1 1 1 ∷ tells 2 Rlk1 one_two ∷ counts 2 1 14 1 ∷
    leaves 2 ∷ joins 2 ∷
    owes 2 [] [] ∷
    owes 3 (3 ∷ 4 ∷ []) [] ∷ tells 3 Pk one_three ∷ counts 3 3 1 1 ∷ tells 4 Rlk1 one_three ∷
    counts 4 3 14 1 ∷
    leaves 3 ∷ joins 3 ∷
    said (call.Brief 1) (reply.Late 2) ∷
    rests ∷ rests ∷ rests ∷ rests ∷ rests ∷ rests ∷
    owes 1 (3 ∷ 4 ∷ []) [] ∷ tells 3 Pk one_three ∷ completes 3 1 1 ∷ tells 4 Rlk1 one_three ∷
    completes 4 1 14 ∷
    owes 2 [] ((0, 1) ∷ []) ∷ gives 0 1 ∷
    owes 3 (5 ∷ []) [] ∷ tells 5 Rlk2 one_three ∷ counts 5 3 14 1 ∷
    rests ∷
    owes 1 (5 ∷ []) ((0, 0) ∷ []) ∷ tells 5 Rlk2 one_three ∷ completes 5 1 14 ∷ gives 0 0 ∷
    owes 2 [] [] ∷
    owes 3 [] [] ∷
    takes 0 ∷ finishes 0 ∷ rests ∷
    owes 1 (6 ∷ []) [] ∷ tells 6 (Dec 0) one_two ∷ counts 6 1 1 1 ∷
    owes 2 (6 ∷ []) [] ∷ tells 6 (Dec 0) one_two ∷ completes 6 2 1 ∷
    owes 3 [] [] ∷ rests ∷ [])
    (seen 7 (
    issued 1 Pk one_two 1 one (Void 2) 0 ∷
    issued 2 Rlk1 one_two 1 one (Void 2) 0 ∷
    issued 3 Pk one_three 2 one_three Complete 0 ∷
    issued 4 Rlk1 one_three 2 one_three Complete 0 ∷
    issued 5 Rlk2 one_three 1 one_three Complete 4 ∷
    issued 6 (Dec 0) one_two 1 one_two Complete 0 ∷ []) ((true ∷ true ∷ []) ∷ []) (Answered ∷ []))
unfolding rules
serves_lanes = (refl, refl, refl)
