-- What is known where something is done, for each deed at a call with which it goes and at some with which it
-- doesn't.
use Rattle.std.proofs.Common.{◌≡◌, ℕ, [], ◌∷◌, Option, Some, None, refl, sym, ap, subst, true≢false, arith}
use Rattle.share_spec.specs.Sets.{has}
use Rattle.proto_names.specs.Instances.{instance}
use Rattle.proto_names.specs.declared.signature.Signature.TheVariants.{Pk}
use Rattle.proto_names.specs.declared.instance.Instance.{Instance}
use Rattle.proto_names.specs.declared.instance.Stage.TheVariants.{Void}
use Rattle.noise_ledger.specs.declared.over.Place.TheVariants.{Output}
use Rattle.session_rules.specs.declared.call.Call.{Call}
use Rattle.session_rules.specs.declared.call.Call.TheVariants as call
use Rattle.session_rules.specs.declared.reply.Reply.{Reply}
use Rattle.session_rules.specs.declared.reply.Reply.TheVariants as reply
use Rattle.session_rules.specs.declared.deed.Deed.TheVariants.{Nothing, Joins, Loses, Counts, Gives, Turns}
use Rattle.session_rules.specs.declared.state.CircuitState.{CircuitState}
use Rattle.session_rules.specs.declared.state.CircuitState.TheVariants.{Refused, Idle, Taken, Evaluated, Answered}
use Rattle.session_rules.specs.Allowed.{Allows}
use Rattle.session_rows.proofs.Words.{three_circuits, none, one, one_two, issued}
use Rattle.session_rows.proofs.Facts.{adding, waiting, complete}
use Rattle.session_rows.proofs.Verdicts.{early, late, key}
use Rattle.session_rows.proofs.Computed.{rules}

-- the party, the instance, and the rows that a call tells of
abbrev party_in : Call → ℕ
party_in (call.Join p) = p
party_in (call.Lose p) = p
party_in other = 0

abbrev id_in : Call → ℕ
id_in (call.Deliver id p rows) = id
id_in other = 0

abbrev rows_in : Call → ℕ
rows_in (call.Deliver id p rows) = rows
rows_in other = 0

abbrev circuit_in : Call → ℕ
circuit_in (call.Finish c) = c
circuit_in (call.GiveBack c) = c
circuit_in other = 0

abbrev taker : CircuitState → ℕ
taker (Taken who) = who
taker other = 0

-- ---- nothing: the reply refuses, or answers who asks for it

pub refuses : Allows adding (early 1 []) 0 (call.Join 1) reply.Already Nothing
refuses = (refl, tt)

pub lists : Allows adding (early 1 []) 0 (call.Pending 1) (reply.List [] []) Nothing
lists = (refl, (1, refl))

pub joined_in_vain : Allows adding (early 0 []) 0 (call.Join 1) reply.Joined Nothing → ⊥
joined_in_vain a = true≢false a.0

pub list_unasked : Allows adding (early 1 []) 0 (call.Brief 1) (reply.List [] []) Nothing → ⊥
list_unasked a = let same : call.Brief 1 ≡ call.Pending a.1.0 = a.1.1 in cc

pub brief_unasked : Allows adding (early 1 []) 0 (call.Pending 1) (reply.Brief Pk one_two) Nothing → ⊥
brief_unasked a = let same : call.Pending 1 ≡ call.Brief a.1.0 = a.1.1 in cc

-- ---- a party joins, which isn't there

pub joins : Allows adding (early 0 []) 0 (call.Join 1) reply.Joined (Joins 1)
unfolding has
joins = record { call = refl; reply = refl; absent = refl }

pub already_changed : Allows adding (early 0 []) 0 (call.Join 1) reply.Already (Joins 1) → ⊥
already_changed a = let same : reply.Already ≡ reply.Joined = a.reply in cc

pub joins_for_another : Allows adding (early 0 []) 0 (call.Join 2) reply.Joined (Joins 1) → ⊥
joins_for_another a = let parties : 2 ≡ 1 = ap party_in a.call in absurd (omega (arith, parties))

pub joins_again : Allows adding (early 1 []) 0 (call.Join 1) reply.Joined (Joins 1) → ⊥
unfolding has
joins_again a = true≢false a.absent

-- ---- a party is lost, which is there

pub loses : Allows adding (early 1 []) 0 (call.Lose 1) reply.Left (Loses 1)
unfolding has
loses = record { call = refl; reply = refl; there = refl }

pub loses_for_another : Allows adding (early 3 []) 0 (call.Lose 2) reply.Left (Loses 1) → ⊥
loses_for_another a = let parties : 2 ≡ 1 = ap party_in a.call in absurd (omega (arith, parties))

pub loses_again : Allows adding (early 2 []) 0 (call.Lose 1) reply.Left (Loses 1) → ⊥
unfolding has
loses_again a = true≢false (sym a.there)

-- ---- a share is counted, of a party that takes part and hasn't sent

pub counts : Allows adding (early 7 (key none ∷ [])) 0 (call.Deliver 1 1 1) (reply.Counted 1) (Counts (key none) 1)
unfolding rules
counts = record { id = 1; call = refl; reply = refl; part = record { issued = refl; member = refl; lives = refl }; unsent = refl }

pub counts_the_last : Allows adding (early 7 (waiting ∷ [])) 0 (call.Deliver 1 2 1) reply.Completed (Counts waiting 2)
unfolding rules
counts_the_last = record { id = 1; call = refl; reply = refl; part = record { issued = refl; member = refl; lives = refl }; unsent = refl }

-- not a last one that is told as one that leaves another missing, one of five rows, one that is sent again, a
-- stranger's, or a late one
pub goes_on_complete : Allows adding (early 7 (waiting ∷ [])) 0 (call.Deliver 1 2 1) (reply.Counted 1) (Counts waiting 2) → ⊥
unfolding rules
goes_on_complete a = let same : reply.Counted 1 ≡ reply.Completed = a.reply in cc

pub counts_five_rows : Allows adding (early 7 (waiting ∷ [])) 0 (call.Deliver 1 2 5) reply.Completed (Counts waiting 2) → ⊥
unfolding rules
counts_five_rows a = let rows : 5 ≡ 1 = ap rows_in a.call in absurd (omega (arith, rows))

pub counts_again : Allows adding (early 7 (waiting ∷ [])) 0 (call.Deliver 1 1 1) (reply.Counted 1) (Counts waiting 1) → ⊥
unfolding has
counts_again a = true≢false a.unsent

pub counts_a_stranger : Allows adding (early 7 (waiting ∷ [])) 0 (call.Deliver 1 3 1) (reply.Counted 1) (Counts waiting 3) → ⊥
unfolding has
counts_a_stranger a = true≢false (sym a.part.member)

abbrev void : Instance
void = issued 1 Pk one_two 1 one (Void 2) 0

pub counts_late : Allows adding (early 5 (void ∷ [])) 0 (call.Deliver 1 2 1) reply.Completed (Counts void 2) → ⊥
counts_late a = true≢false a.part.lives

-- the instance is told as it was before the call
abbrev sent_to : Option Instance → ℕ
sent_to None = 0
sent_to (Some i) = i.sent.bits

pub counts_for_an_earlier : Allows adding (early 7 (waiting ∷ [])) 0 (call.Deliver 1 2 1) (reply.Counted 1) (Counts (key none) 2) → ⊥
unfolding instance
counts_for_an_earlier a =
    let id : 1 ≡ a.id = ap id_in a.call in
    let sent : 1 ≡ 0 = ap sent_to (subst (λ (k : ℕ). instance (waiting ∷ []) k ≡ Some (key none)) (sym id) a.part.issued) in
    absurd (omega (arith, sent))

-- ---- an input is given, by an owner who is there, once there is a key

pub gives : Allows adding (early 7 (complete ∷ [])) 0 (call.Input 0 1) reply.Given (Gives 0 1)
unfolding rules
gives = record { call = refl; reply = refl; input = refl; key = refl; owner = refl; missing = refl }

pub gives_none : Allows adding (early 7 (complete ∷ [])) 0 (call.Input 0 2) reply.Given (Gives 0 2) → ⊥
unfolding rules
gives_none a = true≢false (sym a.input)

pub gives_to_a_refused_one : Allows three_circuits (early 7 (complete ∷ [])) 0 (call.Input 0 1) reply.Given (Gives 0 1) → ⊥
unfolding rules
gives_to_a_refused_one a = true≢false (sym a.input)

pub gives_without_key : Allows adding (early 7 (waiting ∷ [])) 0 (call.Input 0 1) reply.Given (Gives 0 1) → ⊥
unfolding rules
gives_without_key a = true≢false (sym a.key)

pub owner_is_absent : Allows adding (early 5 (complete ∷ [])) 0 (call.Input 0 1) reply.Given (Gives 0 1) → ⊥
unfolding rules
owner_is_absent a = true≢false (sym a.owner)

pub gives_again : Allows adding (late Idle) 0 (call.Input 0 1) reply.Given (Gives 0 1) → ⊥
gives_again a = true≢false a.missing

-- ---- the first circuit that is ready is taken by the caller

pub takes : Allows adding (late Idle) 4 call.Take (reply.Job 0) (Turns 0 (Taken 4))
unfolding rules
takes = record { call = refl; reply = refl; next = refl; who = refl }

pub takes_for_another : Allows adding (late Idle) 4 call.Take (reply.Job 0) (Turns 0 (Taken 3)) → ⊥
takes_for_another a = let callers : 3 ≡ 4 = a.who in absurd (omega (arith, callers))

pub takes_unready : Allows adding (early 7 (complete ∷ [])) 4 call.Take (reply.Job 0) (Turns 0 (Taken 4)) → ⊥
unfolding rules
takes_unready a = let same : ◌≡◌ {A = Option ℕ} None (Some 0) = a.next in cc

-- ---- one that the caller has taken is evaluated, or given back

pub finishes : Allows adding (late (Taken 4)) 4 (call.Finish 0) reply.Finished (Turns 0 Evaluated)
finishes = record { call = refl; reply = refl; taken = refl }

pub finishes_another : Allows adding (late (Taken 4)) 3 (call.Finish 0) reply.Finished (Turns 0 Evaluated) → ⊥
finishes_another a = let callers : 4 ≡ 3 = ap taker a.taken in absurd (omega (arith, callers))

pub finishes_untaken : Allows adding (late Idle) 4 (call.Finish 0) reply.Finished (Turns 0 Evaluated) → ⊥
finishes_untaken a = let same : Idle ≡ Taken 4 = a.taken in cc

pub finishes_with_give_back : Allows adding (late (Taken 4)) 4 (call.GiveBack 0) reply.Finished (Turns 0 Evaluated) → ⊥
finishes_with_give_back a = let same : call.GiveBack 0 ≡ call.Finish 0 = a.call in cc

pub gives_back : Allows adding (late (Taken 4)) 4 (call.GiveBack 0) reply.Returned (Turns 0 Idle)
gives_back = record { call = refl; reply = refl; taken = refl }

pub gives_back_elsewhere : Allows adding (late (Taken 4)) 4 (call.GiveBack 1) reply.Returned (Turns 0 Idle) → ⊥
gives_back_elsewhere a = let circuits : 1 ≡ 0 = ap circuit_in a.call in absurd (omega (arith, circuits))

-- no call refuses a circuit, and none answers one by itself
pub none_refuses : (c : Call) (r : Reply) → Allows adding (late Idle) 4 c r (Turns 0 (Refused Output 2 1)) → ⊥
none_refuses c r a = a

pub none_answers : (c : Call) (r : Reply) → Allows adding (late Evaluated) 4 c r (Turns 0 Answered) → ⊥
none_answers c r a = a
