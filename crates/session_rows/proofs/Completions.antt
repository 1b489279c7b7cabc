-- What is known of an instance once it is complete, and of a circuit once it is answered.
use Rattle.std.proofs.Common.{◌≡◌, ℕ, inl, inr, true, List, [], ◌∷◌, Contains, Option, Some, None, refl, sym, ap, subst, ◌∙◌, arith}
use Rattle.std.specs.Prelude.{unwrap_or}
use Rattle.share_spec.specs.Sets.{has, members_to, members, count}
use Rattle.proto_names.specs.Instances.{instance}
use Rattle.proto_names.specs.Names.{subject}
use Rattle.proto_names.specs.declared.signature.Signature.TheVariants.{Pk, Rlk1, Dec}
use Rattle.proto_names.specs.declared.sets.PartySet.{PartySet}
use Rattle.proto_names.specs.declared.instance.Instance.{Instance}
use Rattle.proto_names.specs.declared.instance.Stage.TheVariants.{Opened, Complete, Void}
use Rattle.session_rules.specs.declared.state.CircuitState.{CircuitState}
use Rattle.session_rules.specs.declared.state.CircuitState.TheVariants.{Evaluated, Answered}
use Rattle.session_rules.specs.States.{State, seen, circuit}
use Rattle.session_rules.specs.Facts.{HasAll}
use Rattle.session_rules.specs.Completions.{HasDecryption}
use Rattle.session_rules.proofs.Contained.{contains_nil, contains_cases}
use Rattle.session_rows.proofs.Words.{one, one_two, issued}
use Rattle.session_rows.proofs.Facts.{adding, waiting, complete}

-- ---- all parties of an instance sent, as many as act together, and its circuit is answered

abbrev answering : Instance
answering = issued 2 (Dec 0) one_two 1 one_two Complete 0

abbrev after_answer : CircuitState → State
after_answer now = seen 7 (complete ∷ answering ∷ []) ((true ∷ true ∷ []) ∷ []) (now ∷ [])

pub has_all : HasAll adding (after_answer Answered) 2
unfolding instance members members_to has
has_all = record {
  item = answering;
  issued = refl;
  sent = refl;
  parties = refl;
  answered = λ c e. let same : 0 ≡ c = ap subject e in subst (λ (k : ℕ). circuit (Answered ∷ []) k ≡ Answered) same refl;
}

-- so it is of one that was given up since
abbrev given_up : Instance
given_up = issued 1 Rlk1 one_two 1 one_two (Void 2) 0

pub given_up_has_all : HasAll adding (seen 5 (given_up ∷ []) [] []) 1
unfolding instance members members_to has
given_up_has_all = record { item = given_up; issued = refl; sent = refl; parties = refl; answered = λ c e. cc }

-- there is none; a share is wanting; there is one party where two act; and the circuit isn't answered
item_is : (i : Instance) (s : State) (h : HasAll adding s 1) → instance s.instances 1 ≡ Some i → i ≡ h.item
item_is i s h e = ap (λ (o : Option Instance). unwrap_or o i) (sym e ∙ h.issued)

pub none_has_all : HasAll adding (seen 7 [] [] []) 1 → ⊥
unfolding instance
none_has_all h = let same : None ≡ Some h.item = h.issued in cc

pub one_is_wanting : HasAll adding (seen 7 (waiting ∷ []) [] []) 1 → ⊥
unfolding instance
one_is_wanting h =
    let sent : one ≡ one_two = subst (λ (i : Instance). i.sent ≡ i.set) (sym (item_is waiting (seen 7 (waiting ∷ []) [] []) h refl)) h.sent in
    let bits : 1 ≡ 3 = ap (λ (set : PartySet). set.bits) sent in absurd (omega (arith, bits))

pub one_has_all : HasAll adding (seen 7 (issued 1 Pk one 1 one Complete 0 ∷ []) [] []) 1 → ⊥
unfolding instance members members_to has
one_has_all h =
    let parties : 1 ≡ 2 = subst (λ (i : Instance). count i.set.bits ≡ 2) (sym (item_is (issued 1 Pk one 1 one Complete 0) (seen 7 (issued 1 Pk one 1 one Complete 0 ∷ []) [] []) h refl)) h.parties in
    absurd (omega (arith, parties))

pub unanswered_has_all : HasAll adding (after_answer Evaluated) 2 → ⊥
unfolding instance
unanswered_has_all h =
    let item : answering ≡ h.item = ap (λ (o : Option Instance). unwrap_or o answering) h.issued in
    let same : Evaluated ≡ Answered = h.answered 0 (subst (λ (i : Instance). i.signature ≡ Dec 0) item refl) in cc

-- ---- the decryption of a circuit is there and complete; it is opened, or it is another's

pub has_decryption : HasDecryption (after_answer Answered) 0
has_decryption = record { decryption = answering; issued = (1, omega arith, refl); signature = refl; complete = refl }

one_alone : (i : Instance) (s : State) (c : ℕ) (h : HasDecryption s c) → s.instances ≡ i ∷ [] → i ≡ h.decryption
one_alone i s c h e = elim (contains_cases i [] h.decryption (subst (λ (is : List Instance). Contains is h.decryption) e h.issued)) [
  | inl same ↦ same
  | inr m ↦ absurd (contains_nil h.decryption m)
]

pub decryption_is_opened : HasDecryption (seen 7 (issued 1 (Dec 0) one_two 1 one Opened 0 ∷ []) [] []) 0 → ⊥
decryption_is_opened h =
    let item = one_alone (issued 1 (Dec 0) one_two 1 one Opened 0) (seen 7 (issued 1 (Dec 0) one_two 1 one Opened 0 ∷ []) [] []) 0 h refl in
    let same : Opened ≡ Complete = ap (λ (i : Instance). i.stage) item ∙ h.complete in cc

pub decryption_of_another : HasDecryption (seen 7 (issued 1 (Dec 1) one_two 1 one_two Complete 0 ∷ []) [] []) 0 → ⊥
decryption_of_another h =
    let item = one_alone (issued 1 (Dec 1) one_two 1 one_two Complete 0) (seen 7 (issued 1 (Dec 1) one_two 1 one_two Complete 0 ∷ []) [] []) 0 h refl in
    let subjects : 1 ≡ 0 = ap (λ (i : Instance). subject i.signature) item ∙ ap subject h.signature in absurd (omega (arith, subjects))
