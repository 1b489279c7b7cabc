-- What a party has for its inputs, from one input to the next.
use Rattle.std.proofs.Common.{◌≡◌, ◌∙◌, sym, ap, subst, refl, ℕ, ◌+◌, ◌<◌, ◌≤◌, Bool, true, false, nat_eq, get_or, inl, inr, List, [], ◌∷◌, ◌++◌, length, All, Option, Some, None, arith}
use Rattle.std.specs.Prelude.{IsSome}
use Rattle.std.specs.List.{find, slice_get}
use Rattle.std.specs.Option.{option_map, option_or, option_eq}
use Rattle.std.proofs.lemmas.Bool.{and_parts, and_from, eqb-true, eq-eqb, cases_lt}
use Rattle.std.proofs.lemmas.List.{get_or_default, get_or_past}
use Rattle.std.proofs.lemmas.List.Elements.{All-nil, All-push, All-contains, All-same, All-weaker, All-get_or}
use Rattle.std.proofs.lemmas.List.Folds.{find-append}
use Rattle.std.proofs.lemmas.List.Sums.{get_or-le-sum_by}
use Rattle.std.proofs.lemmas.Option.{slice_get_within}
use Rattle.ring_spec.specs.Ring.{IsPoly}
use Rattle.circuit_form.specs.Circuits.{owners}
use Rattle.party_roll.specs.declared.placed.Placed.{Placed}
use Rattle.party_roll.specs.Values.{value_in, value_of, is_at, IsPlain, HasStream}
use Rattle.session_rules.proofs.Contained.{find_some}
use Rattle.session_script.specs.Asked.{Named, Asked}
use Rattle.session_script.specs.Kept.{IsNamed, AreNamed, IsAccepted, inputs_of, inputs}
use Rattle.helper_main.specs.Inputs.{no_circuit, circuit_at, OwnsInput, asked_value, IsAsked, IsOwn, IsBefore, HasOwn}

-- ---- where a value is found

-- what is found is kept where more stands behind
some_or : (found other : Option Placed) → IsSome (option_map value_of found) → IsSome (option_map value_of (option_or found other))
some_or None other s = absurd cc
some_or (Some x) other s = refl

or_some : (found : Option Placed) (x : Placed) → IsSome (option_map value_of (option_or found (Some x)))
or_some None x = refl
or_some (Some y) x = refl

kept : (xs ys : List Placed) (d j : ℕ) → IsSome (value_in xs d j) → IsSome (value_in (xs ++ ys) d j)
unfolding value_in
kept xs ys d j s =
    subst (λ (z : Option Placed). IsSome (option_map value_of z)) (sym (find-append (is_at d j) xs ys))
    (some_or (find (is_at d j) xs) (find (is_at d j) ys) s)

-- what is placed behind is found at its place
at_itself : (x : Placed) → is_at x.circuit x.input x ≡ true
at_itself x = and_from _ _ (eq-eqb x.circuit x.circuit refl) (eq-eqb x.input x.input refl)

last_of_one : (test : Placed → Bool) (x : Placed) → test x ≡ true → find test (x ∷ []) ≡ Some x
last_of_one test x e = rw e refl

pub found_last : (xs : List Placed) (x : Placed) → IsSome (value_in (xs ++ x ∷ []) x.circuit x.input)
unfolding value_in
found_last xs x =
    let test = is_at x.circuit x.input in
    subst (λ (z : Option Placed). IsSome (option_map value_of z)) (sym (find-append test xs (x ∷ []) ∙ ap (option_or (find test xs)) (last_of_one test x (at_itself x))))
    (or_some (find test xs) x)

-- a value that is found is that of its place
found_at : (a : Asked) (xs : List Placed) (d j : ℕ) (found : Option Placed) → found ≡ find (is_at d j) xs → All (IsAsked a) xs → IsSome (option_map value_of found) → option_map value_of found ≡ Some (asked_value a d j)
found_at a xs d j None e right s = absurd cc
found_at a xs d j (Some x) e right s =
    let found = find_some (is_at d j) xs x (sym e) in
    let places = and_parts (nat_eq x.circuit d) (nat_eq x.input j) found.1 in
    let asked = (All-contains (IsAsked a) xs x right found.0).value in
    ap Some (asked ∙ ap (λ (c : ℕ). asked_value a c x.input) (eqb-true x.circuit d places.0) ∙ ap (asked_value a d) (eqb-true x.input j places.1))

-- ---- from one input to the next

-- nothing stands before the first input
pub own_start : (a : Asked) (p : ℕ) (values : List Placed) → values ≡ [] → HasOwn a p 0 0 values
own_start a p values e = record {
  right = All-same (IsAsked a) values [] e (All-nil (IsAsked a));
  own = All-same (IsOwn a p) values [] e (All-nil (IsOwn a p));
  there = λ d j before own. elim before [
    | inl less ↦ absurd (omega (arith, less))
    | inr same ↦ absurd (omega (arith, same.1))
  ];
}

-- an input that another party owns is passed
pub own_passed : (a : Asked) (p c k : ℕ) (values : List Placed) → (OwnsInput a p c k → ⊥) → HasOwn a p c k values → HasOwn a p c (k + 1) values
own_passed a p c k values other h = record {
  right = h.right;
  own = h.own;
  there = λ d j before own. elim before [
    | inl less ↦ h.there d j (inl less) own
    | inr same ↦ elim (cases_lt j k) [
      | inl less ↦ h.there d j (inr (same.0, less)) own
      | inr more ↦
          let here : j ≡ k = omega (arith, same.1, more) in
          absurd (other (subst (λ (i : ℕ). OwnsInput a p c i) here (subst (λ (b : ℕ). OwnsInput a p b j) same.0 own)))
    ]
  ];
}

-- another owner than p
pub other_owner : (a : Asked) (p c k : ℕ) (owner : Option ℕ) → false ≡ option_eq nat_eq owner (Some p) → owner ≡ slice_get (owners (circuit_at a c).nodes) k → OwnsInput a p c k → ⊥
other_owner a p c k owner other is own =
    let same : false ≡ true = other ∙ ap (λ (z : Option ℕ). option_eq nat_eq z (Some p)) (is ∙ own) ∙ eq-eqb p p refl in cc

-- p itself
pub same_owner : (a : Asked) (p c k : ℕ) (owner : Option ℕ) → true ≡ option_eq nat_eq owner (Some p) → owner ≡ slice_get (owners (circuit_at a c).nodes) k → OwnsInput a p c k
same_owner a p c k None same is = absurd cc
same_owner a p c k (Some o) same is = sym is ∙ ap Some (eqb-true o p (sym same))

-- its own input gets its value
pub own_placed : (a : Asked) (p c k : ℕ) (values : List Placed) (x : Placed) → IsAsked a x → IsOwn a p x → x.circuit ≡ c → x.input ≡ k → HasOwn a p c k values → HasOwn a p c (k + 1) (values ++ x ∷ [])
own_placed a p c k values x asked its is-c is-k h = record {
  right = All-push (IsAsked a) values x h.right asked;
  own = All-push (IsOwn a p) values x h.own its;
  there = λ d j before own. elim before [
    | inl less ↦ kept values (x ∷ []) d j (h.there d j (inl less) own)
    | inr same ↦ elim (cases_lt j k) [
      | inl less ↦ kept values (x ∷ []) d j (h.there d j (inr (same.0, less)) own)
      | inr more ↦
          let here : x.input ≡ j = omega (arith, same.1, more, is-k) in
          subst (λ (i : ℕ). IsSome (value_in (values ++ x ∷ []) d i)) here
          (subst (λ (b : ℕ). IsSome (value_in (values ++ x ∷ []) b x.input)) (is-c ∙ sym same.0) (found_last values x))
    ]
  ];
}

-- all inputs of a circuit are those before the next circuit's first
pub own_next : (a : Asked) (p c k : ℕ) (values : List Placed) → length (owners (circuit_at a c).nodes) ≤ k → HasOwn a p c k values → HasOwn a p (c + 1) 0 values
own_next a p c k values all h = record {
  right = h.right;
  own = h.own;
  there = λ d j before own. elim before [
    | inl less ↦ elim (cases_lt d c) [
      | inl earlier ↦ h.there d j (inl earlier) own
      | inr later ↦
          let same : d ≡ c = omega (arith, less, later) in
          let within : j < length (owners (circuit_at a c).nodes) = slice_get_within (owners (circuit_at a c).nodes) j p (subst (λ (b : ℕ). OwnsInput a p b j) same own) in
          h.there d j (inr (same, omega (arith, within, all))) own
    ]
    | inr none ↦ absurd (omega (arith, none.1))
  ];
}

-- ---- what it has at the end

pub own_value : (a : Asked) (p c k d j : ℕ) (values : List Placed) → IsBefore c k d j → OwnsInput a p d j → HasOwn a p c k values → value_in values d j ≡ Some (asked_value a d j)
unfolding value_in
own_value a p c k d j values before own h = found_at a values d j (find (is_at d j) values) refl h.right (h.there d j before own)

pub own_plain : (a : Asked) (p c k : ℕ) (values : List Placed) → HasOwn a p c k values → All (IsPlain a.numbers.t a.numbers.n) values
own_plain a p c k values h = All-weaker (IsAsked a) (IsPlain a.numbers.t a.numbers.n) (λ x asked. asked.plain) values h.right

-- few circuits with few inputs each: there is a stream for each
owned_stream : (a : Asked) (p : ℕ) (x : Placed) → IsAccepted a → IsOwn a p x → HasStream x
unfolding owners
owned_stream a p x accepted own =
    let within : x.input < length (owners (circuit_at a x.circuit).nodes) = slice_get_within (owners (circuit_at a x.circuit).nodes) x.input p own in
    elim (cases_lt x.circuit (length a.circuits)) [
      | inl there ↦
          let few : length (owners (circuit_at a x.circuit).nodes) ≤ inputs a.circuits = get_or-le-sum_by inputs_of a.circuits x.circuit no_circuit there in
          (omega (arith, there, accepted.few), omega (arith, within, few, accepted.few_inputs))
      | inr more ↦
          let none : length (owners (circuit_at a x.circuit).nodes) ≡ 0 = ap (λ (z : Named). length (owners z.nodes)) (get_or_past a.circuits x.circuit no_circuit more) in
          absurd (omega (arith, within, none))
    ]

pub own_streams : (a : Asked) (p c k : ℕ) (values : List Placed) → IsAccepted a → HasOwn a p c k values → All HasStream values
own_streams a p c k values accepted h = All-weaker (IsOwn a p) HasStream (λ x own. owned_stream a p x accepted own) values h.own

-- ---- a script's circuits

pub circuit_is : (a : Asked) (c : ℕ) (x : Named) (circuits : List Named) → circuits ≡ a.circuits → c < length a.circuits → x ≡ get_or circuits c x → circuit_at a c ≡ x
circuit_is a c x circuits same within is =
    get_or_default a.circuits c no_circuit x within ∙ ap (λ (z : List Named). get_or z c x) (sym same) ∙ sym is

pub named_at : (a : Asked) (c : ℕ) → c < length a.circuits → AreNamed a → IsNamed a.numbers (circuit_at a c)
named_at a c within named = All-get_or (IsNamed a.numbers) a.circuits c no_circuit within named

-- the value of an input is a plaintext
pub own_pushed : (a : Asked) (p c k : ℕ) (value : List ℕ) (values values' : List Placed) → AreNamed a → c < length a.circuits → k < length (owners (circuit_at a c).nodes) → OwnsInput a p c k → value ≡ asked_value a c k → values' ≡ values ++ record { circuit = c; input = k; value = value } ∷ [] → HasOwn a p c k values → HasOwn a p c (k + 1) values'
own_pushed a p c k value values values' named there within its is pushed h =
    let circuit = named_at a c there named in
    let plain = All-get_or (IsPoly a.numbers.t a.numbers.n) (circuit_at a c).values k [] (omega (arith, within, circuit.count)) circuit.values in
    let x : Placed = record { circuit = c; input = k; value = value } in
    let asked : IsAsked a x = record { plain = subst (IsPoly a.numbers.t a.numbers.n) (sym is) plain; value = is } in
    subst (HasOwn a p c (k + 1)) (sym pushed) (own_placed a p c k values x asked its refl refl h)
