-- What holds of states and of instances, each at one that keeps it and at some that don't.
use Rattle.std.proofs.Common.{◌≡◌, ℕ, ◌≤◌, true, false, List, [], ◌∷◌, slice_index_or, inl, inr, refl, sym, ap, subst, ◌∙◌, true≢false, arith}
use Rattle.share_spec.specs.Sets.{has, members_to, members}
use Rattle.proto_names.specs.Groups.{with_party, is_outside, number_outside}
use Rattle.proto_names.specs.Instances.{instance}
use Rattle.proto_names.specs.Names.{kind, subject}
use Rattle.proto_names.specs.declared.signature.Signature.TheVariants.{Pk, Rlk1, Rlk2, Dec}
use Rattle.proto_names.specs.declared.instance.Instance.{Instance}
use Rattle.proto_names.specs.declared.instance.Stage.TheVariants.{Opened, Complete, Void}
use Rattle.noise_ledger.specs.declared.over.Place.TheVariants.{Output}
use Rattle.session_rules.specs.declared.call.Call.TheVariants as call
use Rattle.session_rules.specs.declared.call.Entry.{Entry}
use Rattle.session_rules.specs.declared.reply.Reply.TheVariants as reply
use Rattle.session_rules.specs.declared.state.CircuitState.TheVariants.{Refused, Idle, Taken, Evaluated, Answered}
use Rattle.session_rules.specs.declared.fixed.Fixed.{Fixed}
use Rattle.session_rules.specs.States.{State, seen, opening}
use Rattle.session_rules.specs.Histories.{state_after}
use Rattle.session_rules.specs.Facts.{JoinsParty, JoinParties, IsLive, IsSound, Decrypts, HasFirst, Numbered, OneLives, Kept, IsSameLater, is_settled, is_begun, IsLater, IsFirstAt, IsAtRest, TakesPart, NoneBy, answered}
use Rattle.session_rules.proofs.Keeps.{state_kept}
use Rattle.session_rules.proofs.Runs.{later_ones_follow}
use Rattle.session_rules.proofs.PartySets.{with_keeps}
use Rattle.session_rules.proofs.Contained.{contains_nil, contains_cases}
use Rattle.session_rows.proofs.Words.{sum_of, any_two, none, one, one_two, one_three, parties, issued, asked, joins, leaves, counts, completes, gives}
use Rattle.session_rows.proofs.Computed.{rules}

-- two of three parties act, for a circuit of the inputs of the parties 1 and 2
abbrev pub adding : Fixed
adding = any_two (sum_of (1 ∷ 2 ∷ []))

-- the public key: it waits for party 2, it is complete, and it is given up by party 2
abbrev pub waiting : Instance
waiting = issued 1 Pk one_two 1 one Opened 0

abbrev pub complete : Instance
complete = issued 1 Pk one_two 1 one_two Complete 0

abbrev void : Instance
void = issued 1 Pk one_two 1 one (Void 2) 0

-- ---- calls

pub last_party_joins : JoinsParty (call.Join 32)
last_party_joins = omega arith

pub no_party_joins : JoinsParty (call.Join 33) → ⊥
no_party_joins h = absurd (omega (arith, h))

pub parties_join : JoinParties (joins 3 ∷ leaves 40 ∷ [])
parties_join = (omega arith, (tt, tt))

pub one_is_none : JoinParties (joins 3 ∷ joins 33 ∷ []) → ⊥
one_is_none h = absurd (omega (arith, h.1.0))

pub answers : answered adding (opening adding) 4 (call.Join 1) ≡ asked 4 (call.Join 1) reply.Joined
unfolding rules
answers = refl

-- caller 1 makes none of the calls of caller 0; caller 0 makes one
pub none_by_another : NoneBy 1 (joins 1 ∷ joins 2 ∷ [])
none_by_another = ((λ e. absurd (omega (arith, e))), ((λ e. absurd (omega (arith, e))), tt))

pub one_by_itself : NoneBy 0 (asked 1 (call.Join 1) reply.Joined ∷ joins 2 ∷ []) → ⊥
one_by_itself h = h.1.0 refl

-- ---- an instance by itself

pub live : IsLive waiting × IsLive complete
live = (refl, refl)

pub not_live : IsLive void → ⊥
not_live h = true≢false h

-- complete, with the shares of both
pub sound : IsSound adding 0 complete
unfolding members members_to has number_outside is_outside
sound = record {
  set = omega arith;
  parties = refl;
  sent = omega arith;
  senders = λ p h. h;
  complete = λ e. refl;
  opened = λ l e. cc;
  awaited = λ e p h g. cc;
}

-- one party where two act; a sender that takes no part; complete without the share of party 2; opened with both
-- shares; and one that waits for party 2, which is absent
pub too_few : IsSound adding 7 (issued 1 Pk one 1 none Opened 0) → ⊥
unfolding members members_to has
too_few s = absurd (omega (arith, s.parties))

pub strange_sender : IsSound adding 7 (issued 1 Pk one_two 1 (parties 4) Opened 0) → ⊥
unfolding has
strange_sender s = true≢false (sym (s.senders 3 refl))

pub complete_too_early : IsSound adding 7 (issued 1 Pk one_two 1 one Complete 0) → ⊥
unfolding number_outside is_outside has
complete_too_early s = let missing : 1 ≡ 0 = s.complete refl in absurd (omega (arith, missing))

pub opened_too_long : IsSound adding 7 (issued 1 Pk one_two 1 one_two Opened 0) → ⊥
unfolding number_outside is_outside has
opened_too_long s = let missing : 1 ≤ 0 = s.opened (omega arith) refl in absurd (omega (arith, missing))

pub waits_for_nobody : IsSound adding 5 waiting → ⊥
unfolding has
waits_for_nobody s = true≢false (sym (s.awaited refl 2 refl refl))

-- ---- decryptions and second rounds

pub decrypts : Decrypts (Idle ∷ Evaluated ∷ []) (issued 1 (Dec 1) one_two 1 one Opened 0)
decrypts = record {
  opened = λ c e h. let same : 1 ≡ c = ap subject e in subst (λ (k : ℕ). slice_index_or (Idle ∷ Evaluated ∷ []) k Answered ≡ Evaluated) same refl;
  complete = λ c e h. cc;
  settled = λ c e. let same : 1 ≡ c = ap subject e in subst (λ (k : ℕ). is_settled (slice_index_or (Idle ∷ Evaluated ∷ []) k Answered) ≡ true) same refl;
}

-- the circuit of a void one is evaluated, or answered by a later attempt
pub decrypted_again : Decrypts (Answered ∷ []) (issued 1 (Dec 0) one_two 1 one (Void 2) 0)
decrypted_again = record {
  opened = λ c e h. cc;
  complete = λ c e h. cc;
  settled = λ c e. let same : 0 ≡ c = ap subject e in subst (λ (k : ℕ). is_settled (slice_index_or (Answered ∷ []) k Answered) ≡ true) same refl;
}

pub given_back : Decrypts (Idle ∷ []) (issued 1 (Dec 0) one_two 1 one (Void 2) 0) → ⊥
given_back d = true≢false (sym (d.settled 0 refl))

pub decrypts_nothing : Decrypts (Idle ∷ Evaluated ∷ []) (issued 1 (Dec 0) one_two 1 one Opened 0) → ⊥
decrypts_nothing d = let same : Idle ≡ Evaluated = d.opened 0 refl refl in cc

pub not_answered : Decrypts (Evaluated ∷ []) (issued 1 (Dec 0) one_two 1 one_two Complete 0) → ⊥
not_answered d = let same : Evaluated ≡ Answered = d.complete 0 refl refl in cc

abbrev first : Instance
first = issued 1 Rlk1 one_two 1 one_two Complete 0

abbrev second : Instance
second = issued 2 Rlk2 one_two 1 none Opened 1

pub has_first : HasFirst (first ∷ second ∷ []) second
has_first = record { first = first; issued = (0, omega arith, refl); signature = refl; complete = refl; id = refl; set = refl }

-- there is none, it is of other parties, and it is another's
has_no_first : (i : Instance) (f : HasFirst (i ∷ second ∷ []) second) → (i ≡ f.first → ⊥) → ⊥
has_no_first i f other = elim (contains_cases i (second ∷ []) f.first f.issued) [
  | inl e ↦ other e
  | inr m ↦ elim (contains_cases second [] f.first m) [
    | inl e ↦ let kinds : 2 ≡ 1 = ap (λ (j : Instance). kind j.signature) e ∙ ap kind f.signature in absurd (omega (arith, kinds))
    | inr n ↦ contains_nil f.first n
  ]
]

pub first_is_opened : HasFirst (issued 1 Rlk1 one_two 1 one Opened 0 ∷ second ∷ []) second → ⊥
first_is_opened f = has_no_first (issued 1 Rlk1 one_two 1 one Opened 0) f (λ e. let same : Opened ≡ Complete = ap (λ (j : Instance). j.stage) e ∙ f.complete in cc)

pub first_of_others : HasFirst (issued 1 Rlk1 one_three 1 one_three Complete 0 ∷ second ∷ []) second → ⊥
first_of_others f = has_no_first (issued 1 Rlk1 one_three 1 one_three Complete 0) f (λ e. let bits : 5 ≡ 3 = ap (λ (j : Instance). j.set.bits) e ∙ ap (λ set. set.bits) f.set in absurd (omega (arith, bits)))

pub first_at : IsFirstAt (first ∷ issued 2 Rlk2 one_two 1 one_two Complete 1 ∷ []) 1 0 first
first_at = record { within = omega arith; below = omega arith; signature = refl; complete = refl; round1 = refl }

pub second_is_opened : IsFirstAt (first ∷ second ∷ []) 1 0 first → ⊥
second_is_opened f = let same : Opened ≡ Complete = f.complete in cc

-- ---- lists of instances

pub misnumbered : Numbered (issued 2 Pk one_two 1 one Opened 0 ∷ []) → ⊥
misnumbered n = let id : 2 ≡ 1 = n 0 waiting (omega arith) in absurd (omega (arith, id))

pub two_live : OneLives (waiting ∷ issued 2 Pk one_three 2 none Opened 0 ∷ []) → ⊥
two_live o = let ids : 1 ≡ 2 = o waiting (issued 2 Pk one_three 2 none Opened 0) (0, omega arith, refl) (1, omega arith, refl) refl refl refl in absurd (omega (arith, ids))

-- a party of an instance that isn't void
pub takes_part : TakesPart (seen 7 (waiting ∷ []) [] []) 1 2 waiting
unfolding instance has
takes_part = record { issued = refl; member = refl; lives = refl }

pub takes_no_part : TakesPart (seen 7 (waiting ∷ []) [] []) 1 3 waiting → ⊥
unfolding has
takes_no_part t = true≢false (sym t.member)

pub part_is_void : TakesPart (seen 7 (void ∷ []) [] []) 1 2 void → ⊥
part_is_void t = true≢false t.lives

-- ---- states

-- party 2 is lost after party 1 sent, and then the key is made with party 3
abbrev pub history : List Entry
history = joins 1 ∷ joins 2 ∷ joins 3 ∷ counts 1 1 1 1 ∷ leaves 2 ∷ counts 2 1 1 1 ∷ completes 2 3 1 ∷ gives 0 0 ∷ []

abbrev pub reached : State
reached = seen 5 (void ∷ issued 2 Pk one_three 2 one_three Complete 0 ∷ []) ((true ∷ false ∷ []) ∷ []) (Idle ∷ [])

pub history_leads : state_after adding history ≡ reached
unfolding rules
history_leads = refl

pub kept : Kept adding reached
kept = subst (Kept adding) history_leads (state_kept adding history)

-- an unknown circuit; an input list too many
pub circuit_too_many : Kept adding (seen 0 [] ((false ∷ false ∷ []) ∷ []) (Idle ∷ Idle ∷ [])) → ⊥
circuit_too_many k = absurd (omega (arith, k.circuits))

pub row_too_few : Kept adding (seen 0 [] [] (Idle ∷ [])) → ⊥
row_too_few k = absurd (omega (arith, k.given))

pub two_kept : Kept adding (seen 7 (waiting ∷ issued 2 Pk one_three 2 none Opened 0 ∷ []) ((false ∷ false ∷ []) ∷ []) (Idle ∷ [])) → ⊥
two_kept k = two_live k.one

-- neither rule applies there; at first one instance is wanting
pub at_rest : IsAtRest adding reached
unfolding rules
at_rest = refl

pub not_at_rest : IsAtRest adding (seen 3 [] ((false ∷ false ∷ []) ∷ []) (Idle ∷ [])) → ⊥
unfolding rules
not_at_rest h = cc

pub circuit_words : (is_settled Idle ≡ false) × (is_settled (Taken 1) ≡ false) × (is_settled Evaluated ≡ true) × (is_settled Answered ≡ true) × (is_settled (Refused Output 2 1) ≡ false)
    × (is_begun Idle ≡ false) × (is_begun (Taken 1) ≡ true) × (is_begun Evaluated ≡ true) × (is_begun Answered ≡ true) × (is_begun (Refused Output 2 1) ≡ false)
circuit_words = (refl, refl, refl, refl, refl, refl, refl, refl, refl, refl)

-- ---- what never changes

one_of_two : (p : ℕ) → has 1 p ≡ true → has 3 p ≡ true
unfolding with_party
one_of_two p h = with_keeps 1 2 p h

-- the last share of an instance is counted
pub later : IsSameLater waiting complete
unfolding has
later = record {
  id = refl;
  signature = refl;
  set = refl;
  attempt = refl;
  round1 = refl;
  group = refl;
  sent = λ p h. one_of_two p h;
  closed = λ h. absurd (h refl);
  opened = λ e. refl;
  void = λ by e. cc;
  complete = λ h e. cc;
}

-- a complete first round may be given up, and another key may not; what is void stays so; no share is taken back
pub first_given_up : IsSameLater first (record first { stage = Void 1 })
first_given_up = record {
  id = refl;
  signature = refl;
  set = refl;
  attempt = refl;
  round1 = refl;
  group = refl;
  sent = λ p h. h;
  closed = λ h. refl;
  opened = λ e. cc;
  void = λ by e. cc;
  complete = λ h e. absurd (h refl);
}

pub key_given_up : IsSameLater complete (record complete { stage = Void 1 }) → ⊥
key_given_up s = let same : Void 1 ≡ Complete = s.complete (λ e. cc) refl in cc

pub void_no_more : IsSameLater void waiting → ⊥
void_no_more s = let same : Opened ≡ Void 2 = s.void 2 refl in cc

pub taken_back : IsSameLater waiting (issued 1 Pk one_two 1 none Opened 0) → ⊥
unfolding has
taken_back s = true≢false (sym (s.sent 1 refl))

pub of_others : IsSameLater waiting (issued 1 Pk one_three 1 one Opened 0) → ⊥
of_others s = let bits : 5 ≡ 3 = ap (λ set. set.bits) s.set in absurd (omega (arith, bits))

-- the state that the history leads to is later than the one of its first four calls
pub state_later : IsLater (seen 7 (waiting ∷ []) ((false ∷ false ∷ []) ∷ []) (Idle ∷ [])) reached
unfolding rules
state_later = later_ones_follow adding (joins 1 ∷ joins 2 ∷ joins 3 ∷ counts 1 1 1 1 ∷ []) (leaves 2 ∷ counts 2 1 1 1 ∷ completes 2 3 1 ∷ gives 0 0 ∷ [])

-- nothing that is issued, given, evaluated or refused is so no more
pub issued_no_more : IsLater (seen 7 (waiting ∷ []) [] []) (seen 7 [] [] []) → ⊥
issued_no_more l = absurd (omega (arith, l.issued))

pub given_no_more : IsLater (seen 7 [] ((true ∷ []) ∷ []) (Idle ∷ [])) (seen 7 [] ((false ∷ []) ∷ []) (Idle ∷ [])) → ⊥
given_no_more l = true≢false (sym (l.given 0 0 refl))

pub evaluated_no_more : IsLater (seen 7 [] [] (Evaluated ∷ [])) (seen 7 [] [] (Idle ∷ [])) → ⊥
evaluated_no_more l = true≢false (sym (l.evaluated 0 refl))

pub answered_no_more : IsLater (seen 7 [] [] (Answered ∷ [])) (seen 7 [] [] (Evaluated ∷ [])) → ⊥
answered_no_more l = let same : Evaluated ≡ Answered = l.answered 0 refl in cc

pub refused_no_more : IsLater (seen 7 [] [] (Refused Output 2 1 ∷ [])) (seen 7 [] [] (Idle ∷ [])) → ⊥
refused_no_more l = let same : Idle ≡ Refused Output 2 1 = l.refused 0 refl in cc
