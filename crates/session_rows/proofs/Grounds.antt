-- What more holds of states, of the fixed data, and of states that can be settled, each at one that keeps it and at
-- some that don't.
use Rattle.std.proofs.Common.{◌≡◌, ◌≢◌, ℕ, ◌<◌, zero, suc, true, false, ◌⊎◌, inl, inr, [], ◌∷◌, slice_index_or, Contains, refl, sym, ap, subst, ◌∙◌, true≢false, arith}
use Rattle.std.proofs.lemmas.Bool.{ltb-true}
use Rattle.share_spec.specs.Sets.{has, members_to, members}
use Rattle.proto_names.specs.declared.signature.Signature.TheVariants.{Pk, Rot, Dec}
use Rattle.proto_names.specs.declared.instance.Instance.{Instance}
use Rattle.proto_names.specs.declared.instance.Stage.TheVariants.{Opened, Complete}
use Rattle.noise_ledger.specs.declared.over.Place.TheVariants.{Output}
use Rattle.session_rules.specs.declared.state.CircuitState.TheVariants.{Refused, Idle, Taken}
use Rattle.session_rules.specs.declared.fixed.Fixed.{Fixed}
use Rattle.session_rules.specs.States.{seen, plan, circuit, is_given}
use Rattle.session_rules.specs.Issues.{keys}
use Rattle.session_rules.specs.Steps.{is_input}
use Rattle.session_rules.specs.Facts.{is_begun}
use Rattle.session_rules.specs.Grounds.{Grounded, IsWhole, NoneOpened, GaveAll, CanSettle}
use Rattle.session_rules.proofs.Grounds.{state_grounds}
use Rattle.session_rules.proofs.Contained.{contains_nil, contains_cases}
use Rattle.session_rows.proofs.Words.{constant, turned_by, session, any_two, none, one_two, issued}
use Rattle.session_rows.proofs.Facts.{adding, waiting, complete, history, reached, history_leads}
use Rattle.session_rows.proofs.Computed.{rules}

-- ---- the fixed data: each circuit begins idle or refused, and the rotations are those of the admitted ones

-- no entry of an empty list, and the one of a list with one
alone : {X : Type 0} (x y : X) → Contains (x ∷ []) y → x ≡ y
alone x y m = elim (contains_cases x [] y m) [
  | inl e ↦ e
  | inr n ↦ absurd (contains_nil y n)
]

abbrev turning : Fixed
turning = session 2 (turned_by 3 1)

begins_idle : (c : ℕ) → c < 1 → is_begun (plan turning c).opening ≡ false
begins_idle zero l = refl
begins_idle (suc c) l = absurd (omega (arith, l))

turns_so : (c g : ℕ) → c < 1 → Contains (plan turning c).turns g → Contains (3 ∷ []) g
turns_so zero g l m = m
turns_so (suc c) g l m = absurd (omega (arith, l))

turn_at : (c : ℕ) → c < 1 → Contains (plan turning c).turns 5 → ⊥
turn_at zero l m = let turn : 3 ≡ 5 = alone 3 5 m in absurd (omega (arith, turn))
turn_at (suc c) l m = absurd (omega (arith, l))

pub whole : IsWhole turning
whole = record {
  begins = λ c l. begins_idle c l;
  turns = λ c g l a m. turns_so c g l m;
  turned = λ g m. (0, omega arith, refl, m);
}

pub turn_is_wanting : IsWhole (record turning { turns = [] }) → ⊥
turn_is_wanting w = contains_nil 3 (w.turns 0 3 (omega arith) refl (0, omega arith, refl))

pub turn_too_many : IsWhole (record turning { turns = 3 ∷ 5 ∷ [] }) → ⊥
turn_too_many w = let t = w.turned 5 (1, omega arith, refl) in turn_at t.0 t.1 t.3

pub begins_taken : IsWhole (any_two (record constant { opening = Taken 1 })) → ⊥
begins_taken w = true≢false (w.begins 0 (omega arith))

-- ---- states that calls lead to

begins_so : (c : ℕ) → c < 1 → is_begun (plan adding c).opening ≡ false
begins_so zero l = refl
begins_so (suc c) l = absurd (omega (arith, l))

no_turn : (c g : ℕ) → c < 1 → Contains (plan adding c).turns g → ⊥
no_turn zero g l m = contains_nil g m
no_turn (suc c) g l m = absurd (omega (arith, l))

adding_is_whole : IsWhole adding
adding_is_whole = record {
  begins = λ c l. begins_so c l;
  turns = λ c g l a m. absurd (no_turn c g l m);
  turned = λ g m. absurd (contains_nil g m);
}

pub grounded : Grounded adding reached
grounded = subst (Grounded adding) history_leads (state_grounds adding history adding_is_whole).1

-- an input that is given without a public key; a circuit that is begun without an input, and without a key; an
-- instance of a rotation that no circuit asks for; and a circuit that is refused, and didn't begin so
pub given_without_key : Grounded adding (seen 3 [] ((true ∷ false ∷ []) ∷ []) (Idle ∷ [])) → ⊥
unfolding rules
given_without_key g = true≢false (sym (g.key 0 0 refl))

pub row_is_short : Grounded adding (seen 3 [] ((false ∷ []) ∷ []) (Idle ∷ [])) → ⊥
row_is_short g = let rows : 1 ≡ 2 = g.rows 0 in absurd (omega (arith, rows))

pub begun_without_input : Grounded adding (seen 3 (complete ∷ []) ((true ∷ false ∷ []) ∷ []) (Taken 1 ∷ [])) → ⊥
begun_without_input g = true≢false (sym (g.inputs 0 refl))

pub begun_without_key : Grounded turning (seen 3 (complete ∷ []) ((true ∷ []) ∷ []) (Taken 1 ∷ [])) → ⊥
unfolding rules
begun_without_key g = true≢false (sym (g.keys 0 refl))

pub refused_later : Grounded adding (seen 3 [] ((false ∷ false ∷ []) ∷ []) (Refused Output 2 1 ∷ [])) → ⊥
refused_later g = true≢false (g.refused 0)

neither : (Contains (keys adding) (Rot 3)) ⊎ ((c : ℕ) × (Rot 3 ≡ Dec c)) → ⊥
unfolding rules
neither (inl m) = let same : Pk ≡ Rot 3 = alone Pk (Rot 3) m in cc
neither (inr d) = let same : Rot 3 ≡ Dec d.0 = d.1 in cc

pub asked_by_none : Grounded adding (seen 3 (issued 1 (Rot 3) one_two 1 none Opened 0 ∷ []) ((false ∷ false ∷ []) ∷ []) (Idle ∷ [])) → ⊥
unfolding rules
asked_by_none g = neither (g.asked (issued 1 (Rot 3) one_two 1 none Opened 0) (0, omega arith, refl))

-- ---- what settling comes to

pub none_opened : NoneOpened (seen 7 (complete ∷ []) [] [])
none_opened i m = let e = alone complete i m in λ o. let same : Complete ≡ Opened = ap (λ (j : Instance). j.stage) e ∙ o in cc

pub one_opened : NoneOpened (seen 7 (waiting ∷ []) [] []) → ⊥
one_opened n = n waiting (0, omega arith, refl) refl

-- party 1 gave its share of instance 1, and party 2 didn't; but of the instances up to 0 it lacks none
pub gave : GaveAll 1 1 (seen 7 (waiting ∷ []) [] [])
unfolding has
gave i m l o h = subst (λ (j : Instance). has j.sent.bits 1 ≡ true) (alone waiting i m) refl

pub gave_not : GaveAll 2 1 (seen 7 (waiting ∷ []) [] []) → ⊥
unfolding has
gave_not g = true≢false (sym (g waiting (0, omega arith, refl) (omega arith) refl refl))

pub gave_before : GaveAll 2 0 (seen 7 (waiting ∷ []) [] [])
gave_before i m l = let id : 1 ≡ i.id = ap (λ (j : Instance). j.id) (alone waiting i m) in absurd (omega (arith, id, l))

untaken_one : (c who : ℕ) → circuit (Idle ∷ []) c ≢ Taken who
untaken_one zero who e = cc
untaken_one (suc c) who e = cc

owners_there : (c k : ℕ) → is_input adding c k ≡ true → (is_given (seen 6 (complete ∷ []) ((true ∷ false ∷ []) ∷ []) (Idle ∷ [])) c k ≡ true) ⊎ (has 6 (slice_index_or (plan adding c).owners k 0) ≡ true)
unfolding has is_input
owners_there zero zero h = inl refl
owners_there zero (suc zero) h = inr refl
owners_there zero (suc (suc k)) h = let l : suc (suc k) < 2 = ltb-true (suc (suc k)) 2 h in absurd (omega (arith, l))
owners_there (suc c) k h = let l : k < 0 = ltb-true k 0 h in absurd (omega (arith, l))

-- input 0 is given and the owner of input 1 is present
pub can_settle : CanSettle adding (seen 6 (complete ∷ []) ((true ∷ false ∷ []) ∷ []) (Idle ∷ []))
unfolding members members_to has is_input
can_settle = record {
  untaken = λ c who. untaken_one c who;
  enough = omega arith;
  owners = λ c k h. owners_there c k h;
}

pub taken_by_one : CanSettle adding (seen 6 (complete ∷ []) ((true ∷ false ∷ []) ∷ []) (Taken 4 ∷ [])) → ⊥
taken_by_one c = c.untaken 0 4 refl

pub too_few_present : CanSettle adding (seen 2 (complete ∷ []) ((true ∷ false ∷ []) ∷ []) (Idle ∷ [])) → ⊥
unfolding members members_to has
too_few_present c = absurd (omega (arith, c.enough))

pub owner_is_absent : CanSettle adding (seen 5 (complete ∷ []) ((true ∷ false ∷ []) ∷ []) (Idle ∷ [])) → ⊥
unfolding has is_input
owner_is_absent c = elim (c.owners 0 1 refl) [
  | inl e ↦ true≢false (sym e)
  | inr e ↦ true≢false (sym e)
]
