-- The inputs of a script with two circuits, the values that a party has for its own, and the parties of a script.
use Rattle.std.proofs.Common.{◌≡◌, ℕ, ◌<◌, zero, suc, true, List, [], ◌∷◌, All, codes, slice_index_or, Option, Some, IsSome, refl, sym, ap, ◌∙◌, subst, true≢false, arith, inl, inr}
use Rattle.std.specs.Prelude.{unwrap_or}
use Rattle.std.proofs.lemmas.List.Elements.{All-cons, All-nil}
use Rattle.draw_spec.specs.Streams.{party_seed}
use Rattle.param_set.specs.declared.params.Params.{Params}
use Rattle.circuit_form.specs.declared.node.Node.TheVariants.{Input, Const, Add}
use Rattle.circuit_form.specs.Circuits.{owners}
use Rattle.party_roll.specs.declared.placed.Placed.{Placed}
use Rattle.party_roll.specs.declared.seed_party.SeedParty.{SeedParty}
use Rattle.party_roll.specs.Seeds.{seeds_of}
use Rattle.party_roll.specs.Values.{value_in}
use Rattle.session_rules.specs.States.{plan}
use Rattle.session_rules.specs.Steps.{is_input}
use Rattle.session_script.specs.Asked.{Asked, Named}
use Rattle.session_spec.specs.Settings.{rules, value_at}
use Rattle.run_report.specs.Reports.{setting_asked}
use Rattle.helper_main.specs.Inputs.{no_circuit, circuit_at, OwnsInput, asked_value, IsAsked, IsBefore, IsOwn, HasOwn}
use Rattle.helper_main.specs.Parties.{number_of, IsPartyOf}
use Rattle.spec_rows.proofs.Settings.{p, seven}
use Rattle.session_rows.proofs.Computed.{plans}
use Rattle.run_rows.proofs.Acting.{alone, at_each, placed, own, louder, first_of, told, HasAt}
use Rattle.run_rows.proofs.Texts.{about, five, sum}

-- ---- inputs: those of the first circuit are of the parties 1 and 2, that of the second is party 3's

abbrev pub theirs : Named
theirs = record { name = codes "d"; nodes = Input 3 ∷ Const seven ∷ Add 0 1 ∷ []; values = seven ∷ [] }

abbrev pub both : Asked
both = about (sum ∷ theirs ∷ [])

pub circuits_at : (circuit_at both 1 ≡ theirs) × (circuit_at both 2 ≡ no_circuit)
circuits_at = (refl, refl)

pub owns_input : OwnsInput both 2 0 1
unfolding owners
owns_input = refl

abbrev owner_of : Option ℕ → ℕ
owner_of o = unwrap_or o 0

pub owns_anothers : OwnsInput both 1 0 1 → ⊥
unfolding owners
owns_anothers o = let same : 2 ≡ 1 = ap owner_of o in absurd (omega (arith, same))

pub owns_none : OwnsInput both 2 0 2 → ⊥
unfolding owners
owns_none o = let same : 0 ≡ 2 = ap owner_of o in absurd (omega (arith, same))

pub asked_values : (asked_value both 0 1 ≡ five) × (asked_value both 1 0 ≡ seven) × (asked_value both 0 2 ≡ [])
asked_values = (refl, refl, refl)

-- ---- a value that is asked for

abbrev pub at_place : ℕ → ℕ → List ℕ → Placed
at_place circuit input value = record { circuit = circuit; input = input; value = value }

abbrev IsBelow : ℕ → Type 0
IsBelow x = x < 16

five_below : All IsBelow five
five_below =
    All-cons IsBelow 5 (0 ∷ 0 ∷ 0 ∷ 0 ∷ 0 ∷ 0 ∷ 0 ∷ []) (omega arith) (All-cons IsBelow 0 (0 ∷ 0 ∷ 0 ∷ 0 ∷ 0 ∷ 0 ∷ []) (omega arith)
    (All-cons IsBelow 0 (0 ∷ 0 ∷ 0 ∷ 0 ∷ 0 ∷ []) (omega arith) (All-cons IsBelow 0 (0 ∷ 0 ∷ 0 ∷ 0 ∷ []) (omega arith)
    (All-cons IsBelow 0 (0 ∷ 0 ∷ 0 ∷ []) (omega arith) (All-cons IsBelow 0 (0 ∷ 0 ∷ []) (omega arith)
    (All-cons IsBelow 0 (0 ∷ []) (omega arith) (All-cons IsBelow 0 [] (omega arith) (All-nil IsBelow))))))))

pub asked : IsAsked both (at_place 0 1 five)
asked = record { plain = record { entries = refl; below = five_below }; value = refl }

pub asked_elsewhere : IsAsked both (at_place 0 0 five) → ⊥
asked_elsewhere a = let firsts : 5 ≡ 3 = ap first_of a.value in absurd (omega (arith, firsts))

-- at no input there is no plaintext
pub asked_nowhere : IsAsked both (at_place 0 2 []) → ⊥
asked_nowhere a = let lengths : 0 ≡ 8 = a.plain.entries in absurd (omega (arith, lengths))

-- ---- before an input: those of earlier circuits, and of its circuit the earlier ones

pub before : IsBefore 1 0 0 5 × IsBefore 1 2 1 1
before = (inl (omega arith), inr (refl, omega arith))

pub before_itself : IsBefore 1 0 1 0 → ⊥
before_itself b = elim b [
  | inl earlier ↦ absurd (omega (arith, earlier))
  | inr same ↦ absurd (omega (arith, same.1))
]

pub before_earlier : IsBefore 0 3 1 0 → ⊥
before_earlier b = elim b [
  | inl earlier ↦ absurd (omega (arith, earlier))
  | inr same ↦ absurd (omega (arith, same.0))
]

-- ---- values for all inputs so far that party 2 owns

abbrev twos : List Placed
twos = at_place 0 1 five ∷ []

two_is_there : (d j : ℕ) → IsBefore 1 0 d j → OwnsInput both 2 d j → IsSome (value_in twos d j)
unfolding owners value_in
two_is_there zero zero b o = let same : 1 ≡ 2 = ap owner_of o in absurd (omega (arith, same))
two_is_there zero (suc zero) b o = refl
two_is_there zero (suc (suc j)) b o = let same : 0 ≡ 2 = ap owner_of o in absurd (omega (arith, same))
two_is_there (suc d) j b o = elim b [
  | inl earlier ↦ absurd (omega (arith, earlier))
  | inr same ↦ absurd (omega (arith, same.1))
]

pub has_own : HasOwn both 2 1 0 twos
has_own = record {
  right = All-cons (IsAsked both) (at_place 0 1 five) [] asked (All-nil (IsAsked both));
  own = All-cons (IsOwn both 2) (at_place 0 1 five) [] owns_input (All-nil (IsOwn both 2));
  there = two_is_there;
}

none_so_far : (d j : ℕ) → IsBefore 0 1 d j → OwnsInput both 2 d j → IsSome (value_in [] d j)
unfolding owners
none_so_far zero zero b o = let same : 1 ≡ 2 = ap owner_of o in absurd (omega (arith, same))
none_so_far zero (suc j) b o = elim b [
  | inl earlier ↦ absurd (omega (arith, earlier))
  | inr same ↦ absurd (omega (arith, same.1))
]
none_so_far (suc d) j b o = elim b [
  | inl earlier ↦ absurd (omega (arith, earlier))
  | inr same ↦ absurd (omega (arith, same.0))
]

-- before its first input it needs none
pub has_none_so_far : HasOwn both 2 0 1 []
has_none_so_far = record { right = All-nil (IsAsked both); own = All-nil (IsOwn both 2); there = none_so_far }

pub lacks_own : HasOwn both 2 0 2 [] → ⊥
unfolding value_in
lacks_own h = true≢false (sym (h.there 0 1 (inr (refl, omega arith)) owns_input))

-- a party has no value of another's input
pub has_anothers : HasOwn both 1 0 0 twos → ⊥
has_anothers h = owns_anothers (h.own 0 (at_place 0 1 five) (omega arith))

pub has_a_wrong_one : HasOwn both 2 1 0 (at_place 0 0 five ∷ []) → ⊥
has_a_wrong_one h = asked_elsewhere (h.right 0 (at_place 0 0 five) (omega arith))

-- ---- the parties of a script with the second circuit alone: any that has these parameters, this number and these values

abbrev pub script : Asked
script = about (theirs ∷ [])

rules_are : rules (setting_asked script) ≡ alone
unfolding rules setting_asked plans
rules_are = refl

first_is : is_input (rules (setting_asked script)) 0 0 ≡ true
unfolding is_input rules setting_asked plans
first_is = refl

owner_is : slice_index_or (plan (rules (setting_asked script)) 0).owners 0 0 ≡ 3
unfolding rules setting_asked plans
owner_is = refl

first_there : HasAt own 0 0
unfolding value_in
first_there = refl

abbrev IsTheirs : List Placed → ℕ → ℕ → Type 0
IsTheirs values c k = value_in values c k ≡ Some (value_at (setting_asked script) c k)

first_honest : IsTheirs own 0 0
unfolding value_in setting_asked
first_honest = refl

public_is : (setting_asked script).public ≡ party_seed script.master 0
unfolding setting_asked
public_is = refl

pub party_of : (party : SeedParty) → party.params ≡ p → party.roll.master ≡ script.master → number_of party ≡ 3 → party.values ≡ own → IsPartyOf p script party
party_of party params master number values =
    record {
      able = record {
        params = params;
        values = λ c k there owner. at_each (rules (setting_asked script)) rules_are (HasAt party.values) (subst (λ (vs : List Placed). HasAt vs 0 0) (sym values) first_there) c k there;
      };
      honest = record {
        tells = refl;
        public = ap (λ (m : List ℕ). party_seed m 0) master ∙ sym public_is;
        same = ap (λ (m : List ℕ). seeds_of m party.params.parties) master ∙ ap (λ (x : Params). seeds_of script.master x.parties) params;
        values = λ c k there owner. at_each (rules (setting_asked script)) rules_are (IsTheirs party.values) (subst (λ (vs : List Placed). IsTheirs vs 0 0) (sym values) first_honest) c k there;
      };
    }

pub party_without_value : (party : SeedParty) → number_of party ≡ 3 → party.values ≡ [] → IsPartyOf p script party → ⊥
unfolding value_in
party_without_value party number values is =
    let there : HasAt party.values 0 0 = is.able.values 0 0 first_is (owner_is ∙ sym number) in
    true≢false (sym (subst (λ (vs : List Placed). HasAt vs 0 0) values there))

pub party_with_another_value : (party : SeedParty) → number_of party ≡ 3 → party.values ≡ placed 0 (8 ∷ []) ∷ [] → IsPartyOf p script party → ⊥
unfolding value_in setting_asked
party_with_another_value party number values is =
    let there : IsTheirs party.values 0 0 = is.honest.values 0 0 first_is (owner_is ∙ sym number) in
    let here : IsTheirs (placed 0 (8 ∷ []) ∷ []) 0 0 = subst (λ (vs : List Placed). IsTheirs vs 0 0) values there in
    let firsts : 8 ≡ 7 = ap (λ (o : Option (List ℕ)). first_of (told o)) here in
    absurd (omega (arith, firsts))

pub party_of_other_parameters : (party : SeedParty) → party.params ≡ louder → IsPartyOf p script party → ⊥
party_of_other_parameters party params is =
    let floods : 2 ≡ 1 = ap (λ (x : Params). x.flood) (sym params ∙ is.able.params) in
    absurd (omega (arith, floods))
