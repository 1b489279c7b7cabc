-- The rows of a session's inputs: how many there are, how long each is, and one entry of one of them.
use Rattle.std.proofs.Common.{◌≡◌, ◌≢◌, ◌∙◌, sym, ap, refl, ℕ, ◌<◌, true, inl, inr, List, [], length, map, get_or, set, Option, Some, None, arith}
use Rattle.std.specs.Prelude.{is_some}
use Rattle.std.proofs.lemmas.Bool.{cases_lt}
use Rattle.std.proofs.lemmas.List.{get_or-map, get_or_past, get_or-set_same, get_or-set_other, get_or_default, length-map, map-set}
use Rattle.std.specs.declared.alloc.Global.{Global}
use Rattle.std.specs.declared.sync.Arc.{Arc}
use Rattle.ring_spec.specs.Pairs.{Cipher}
use Rattle.circuit_form.specs.declared.node.Node.{Node}
use Rattle.circuit_form.specs.Circuits.{owners}
use Rattle.param_set.specs.Numbers.{Numbers}
use Rattle.session_rules.specs.declared.fixed.Plan.{Plan}
use Rattle.session_rules.specs.States.{State, plan, no_plan}
use Rattle.session_rules.specs.Fixing.{plan_of, fixed_from}
use Rattle.session_spec.specs.Settings.{Setting, nodes_of, nodes_at, no_offer, rules, input_count}
use Rattle.session_spec.specs.Stores.{Store}
use Rattle.session_spec.specs.Honesty.{count_inputs, Matches}
use Rattle.session_state.specs.Shared.{shared_if}
use Rattle.session_state.specs.Parts.{ciphers_in}

-- ---- the rules of a setting, circuit by circuit

pub rules_plans : (w : Setting) → (rules w).plans ≡ map (plan_of w.numbers) (map nodes_of w.offers)
unfolding rules fixed_from
rules_plans w = refl

pub rules_number : (w : Setting) → length (rules w).plans ≡ length w.offers
rules_number w = ap length (rules_plans w) ∙ length-map (map nodes_of w.offers) (plan_of w.numbers) ∙ length-map w.offers nodes_of

plan_owners : (p : Numbers) (nodes : List Node) → (plan_of p nodes).owners ≡ owners nodes
unfolding plan_of
plan_owners p nodes = refl

no_owners : length (owners []) ≡ 0
unfolding owners
no_owners = refl

-- a plan has an owner for each input
pub plan_inputs : (w : Setting) (c : ℕ) → length (plan (rules w) c).owners ≡ input_count w c
plan_inputs w c = elim (cases_lt c (length w.offers)) [
  | inl less ↦
      let nodes = map nodes_of w.offers in
      let within : c < length nodes = omega (arith, length-map w.offers nodes_of) in
      let at : plan (rules w) c ≡ plan_of w.numbers (nodes_at w c) =
      ap (λ (z : List Plan). get_or z c no_plan) (rules_plans w) ∙ get_or-map (plan_of w.numbers) nodes c [] no_plan within
      ∙ ap (plan_of w.numbers) (get_or-map nodes_of w.offers c no_offer [] less) in
      ap (λ (z : Plan). length z.owners) at ∙ ap length (plan_owners w.numbers (nodes_at w c))
  | inr more ↦
      let at : plan (rules w) c ≡ no_plan = get_or_past (rules w).plans c no_plan (omega (arith, rules_number w)) in
      let none : nodes_at w c ≡ [] = ap nodes_of (get_or_past w.offers c no_offer more) in
      ap (λ (z : Plan). length z.owners) at ∙ sym (ap (λ (z : List Node). length (owners z)) none ∙ no_owners)
]

-- ---- the rows of a store

abbrev pub row_length : List (Option Cipher) → ℕ
row_length row = length row

pub inputs_number : (w : Setting) (s : State) (h : Store) → Matches w s h → length h.inputs ≡ length w.offers
inputs_number w s h m = sym (length-map h.inputs row_length) ∙ ap length m.inputs ∙ length-map w.offers count_inputs

pub row_number : (w : Setting) (s : State) (h : Store) (c : ℕ) → Matches w s h → c < length w.offers → length (get_or h.inputs c []) ≡ input_count w c
row_number w s h c m l =
    let there : c < length h.inputs = omega (arith, inputs_number w s h m) in
    sym (get_or-map row_length h.inputs c [] 0 there) ∙ ap (λ (z : List ℕ). get_or z c 0) m.inputs ∙ get_or-map count_inputs w.offers c no_offer 0 l

-- ---- one entry of one row

module _ {X : Type 0} (rows : List (List X)) (c k : ℕ) (x d : X) where
  abbrev changed : List (List X)
  changed = set rows c (set (get_or rows c []) k x)

  pub cell_same : c < length rows → k < length (get_or rows c []) → get_or (get_or changed c []) k d ≡ x
  cell_same l m = ap (λ (z : List X). get_or z k d) (get_or-set_same rows c (set (get_or rows c []) k x) [] l) ∙ get_or-set_same (get_or rows c []) k x d m

  pub cell_beside : (j : ℕ) → c < length rows → j ≢ k → get_or (get_or changed c []) j d ≡ get_or (get_or rows c []) j d
  cell_beside j l other = ap (λ (z : List X). get_or z j d) (get_or-set_same rows c (set (get_or rows c []) k x) [] l) ∙ get_or-set_other (get_or rows c []) k j x d other

  pub cell_off : (e j : ℕ) → e ≢ c → get_or (get_or changed e []) j d ≡ get_or (get_or rows e []) j d
  cell_off e j other = ap (λ (z : List X). get_or z j d) (get_or-set_other rows c e (set (get_or rows c []) k x) [] other)

-- the row that is there is set at its own place
pub row_set : {X : Type 0} (rows : List (List X)) (c k : ℕ) (x : X) (row : List X) → c < length rows → row ≡ get_or rows c row → set rows c (set row k x) ≡ set rows c (set (get_or rows c []) k x)
row_set {X = X} rows c k x row l e = ap (λ (z : List X). set rows c (set z k x)) (e ∙ get_or_default rows c row [] l)

-- ---- shared pointers

pub row_at : (inputs : List (List (Option (Arc Cipher Global)))) (c : ℕ) → c < length inputs → get_or (map ciphers_in inputs) c [] ≡ ciphers_in (get_or inputs c [])
row_at inputs c l = get_or-map ciphers_in inputs c [] [] l

pub row_is : (inputs : List (List (Option (Arc Cipher Global)))) (c : ℕ) (row : List (Option (Arc Cipher Global))) → c < length inputs → row ≡ get_or inputs c row
    → get_or (map ciphers_in inputs) c [] ≡ ciphers_in row
row_is inputs c row l e = row_at inputs c l ∙ ap ciphers_in (sym (e ∙ get_or_default inputs c row [] l))

-- a shared ciphertext is put at an empty place
pub ciphers_set : (inputs : List (List (Option (Arc Cipher Global)))) (c k : ℕ) (row : List (Option (Arc Cipher Global))) (pointer : Arc Cipher Global) (ct : Cipher)
    → c < length inputs → row ≡ get_or inputs c row → pointer.value ≡ ct
    → map ciphers_in (set inputs c (set row k (Some pointer))) ≡ set (map ciphers_in inputs) c (set (get_or (map ciphers_in inputs) c []) k (Some ct))
ciphers_set inputs c k row pointer ct l e same =
    ap (map ciphers_in) (row_set inputs c k (Some pointer) row l e)
    ∙ map-set ciphers_in inputs c (set (get_or inputs c []) k (Some pointer))
    ∙ ap (set (map ciphers_in inputs) c) (map-set shared_if (get_or inputs c []) k (Some pointer) ∙ ap (λ (z : Cipher). set (ciphers_in (get_or inputs c [])) k (Some z)) same
    ∙ ap (λ (z : List (Option Cipher)). set z k (Some ct)) (sym (row_at inputs c l)))

pub row_within : (inputs : List (List (Option (Arc Cipher Global)))) (c k : ℕ) (row : List (Option (Arc Cipher Global))) → c < length inputs → row ≡ get_or inputs c row
    → k < length (get_or (map ciphers_in inputs) c []) → k < length row
row_within inputs c k row l e m =
    let here : length row ≡ length (get_or inputs c []) = ap length (e ∙ get_or_default inputs c row [] l) in
    let there : length (get_or (map ciphers_in inputs) c []) ≡ length (get_or inputs c []) = ap length (row_at inputs c l) ∙ length-map (get_or inputs c []) shared_if in
    omega arith

-- a pointer is there where its ciphertext is
pub pointer_there : (pointer : Option (Arc Cipher Global)) → is_some (shared_if pointer) ≡ true → is_some pointer ≡ true
pointer_there None e = e
pointer_there (Some pointer) e = refl
