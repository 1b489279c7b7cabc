-- A walk over the nodes of a circuit: what holds at the places that are done holds at the next one too.
use Rattle.std.proofs.Common.{◌≡◌, ℕ, ◌+◌, ◌≤◌, ◌<◌, List, [], ◌∷◌, ◌++◌, length, refl, sym, ap, ◌∙◌, subst, inl, inr, arith, append_assoc, append-nil}
use Rattle.std.specs.Prelude.{Some, None}
use Rattle.std.specs.List.{slice_get}
use Rattle.std.proofs.lemmas.Bool.{cases_lt}
use Rattle.std.proofs.lemmas.List.{get_or_append_left, get_or_at, length-append}
use Rattle.std.proofs.lemmas.Option.{slice_get-get_or}
use Rattle.ring_spec.specs.Ring.{IsPoly}
use Rattle.ring_spec.specs.Pairs.{Cipher}
use Rattle.param_set.specs.declared.params.Params.{Params}
use Rattle.circuit_form.specs.declared.node.Node.{Node}
use Rattle.circuit_form.specs.declared.node.Node.TheVariants.{Input, Const, Add, Sub, Neg, Mul, Rot}
use Rattle.circuit_form.specs.Circuits.{first_fault, owners}
use Rattle.circuit_form.specs.Values.{entry, node_value, given_after, values_from}
use Rattle.circuit_form.proofs.Standing.{each_stands}
use Rattle.param_set.specs.Numbers.{numbers_of}
use Rattle.noise_ledger.specs.Ledger.{bound_at, node_bound, bounds_from}
use Rattle.noise_ledger.specs.Bounds.{numbers_for}
use Rattle.cipher_spec.specs.Keys.{Keys}
use Rattle.cipher_spec.specs.Ciphers.{no_cipher, cipher_at, node_cipher, ciphers_from}
use Rattle.circuit_laws.specs.Carrying.{AreInputs}
use Rattle.circuit_laws.specs.Switches.{AreKeysFor}
use Rattle.circuit_laws.proofs.Places.{Holds, AllWithin}
use Rattle.circuit_laws.proofs.Nodes.{node_holds}

-- so many places are done, and it holds at each before which all bounds are within the limit
pub record Walked (p : Params) (threshold : ℕ) (s : List ℕ) (nodes : List Node) (k : ℕ) (bounds : List ℕ) (ciphers : List Cipher) (plains : List (List ℕ)) : Type 0 where
  pub bounded : length bounds ≡ k
  pub ciphered : length ciphers ≡ k
  pub valued : length plains ≡ k
  pub each : (j : ℕ) → j < k → AllWithin p threshold nodes j bounds → Holds p s nodes j (bound_at bounds j) (cipher_at ciphers j) (entry plains j)

pub walked_none : (p : Params) (threshold : ℕ) (s : List ℕ) (nodes : List Node) → Walked p threshold s nodes 0 [] [] []
walked_none p threshold s nodes = record { bounded = refl; ciphered = refl; valued = refl; each = λ j l within. absurd (omega (arith, l)) }

longer : {X : Type 0} (xs : List X) (x : X) (k : ℕ) → length xs ≡ k → length (xs ++ x ∷ []) ≡ k + 1
longer xs x k e = omega (arith, length-append xs (x ∷ []), e)

-- bounds before a place are as they were once another stands behind them
within_before : (p : Params) (threshold : ℕ) (nodes : List Node) (j v : ℕ) (bounds : List ℕ) → j ≤ length bounds → AllWithin p threshold nodes j (bounds ++ v ∷ []) → AllWithin p threshold nodes j bounds
within_before p threshold nodes j v bounds l within some i below = rw (sym (get_or_append_left bounds (v ∷ []) 0 i (omega (arith, l, below)))) (within some i below)

walked_more : (p : Params) (threshold : ℕ) (s : List ℕ) (nodes : List Node) (k v : ℕ) (c : Cipher) (m : List ℕ) (bounds : List ℕ) (ciphers : List Cipher) (plains : List (List ℕ)) →
    Walked p threshold s nodes k bounds ciphers plains → (AllWithin p threshold nodes k bounds → Holds p s nodes k v c m) →
    Walked p threshold s nodes (k + 1) (bounds ++ v ∷ []) (ciphers ++ c ∷ []) (plains ++ m ∷ [])
walked_more p threshold s nodes k v c m bounds ciphers plains w holds = record {
  bounded = longer bounds v k w.bounded;
  ciphered = longer ciphers c k w.ciphered;
  valued = longer plains m k w.valued;
  each = λ j l within. let before = within_before p threshold nodes j v bounds (omega (arith, l, w.bounded)) within in elim (cases_lt j k) [
    | inl r ↦
        rw (
          get_or_append_left bounds (v ∷ []) 0 j (omega (arith, r, w.bounded)),
          get_or_append_left ciphers (c ∷ []) no_cipher j (omega (arith, r, w.ciphered)),
          get_or_append_left plains (m ∷ []) [] j (omega (arith, r, w.valued)),
        ) (w.each j r before)
    | inr r ↦
        let last : k ≡ j = omega (arith, l, r) in
        rw (
          get_or_at bounds v [] 0 j (w.bounded ∙ last),
          get_or_at ciphers c [] no_cipher j (w.ciphered ∙ last),
          get_or_at plains m [] [] j (w.valued ∙ last),
        ) (subst (λ (i : ℕ). Holds p s nodes i v c m) last (holds (subst (λ (i : ℕ). AllWithin p threshold nodes i bounds) (sym last) before)))
  ];
}

-- an input that was passed is one less that is left
owners_more : (given : ℕ) (node : Node) (rest : List Node) → given + length (owners (node ∷ rest)) ≡ given_after given node + length (owners rest)
unfolding owners given_after
owners_more given (Input owner) rest = omega arith
owners_more given (Const value) rest = refl
owners_more given (Add left right) rest = refl
owners_more given (Sub left right) rest = refl
owners_more given (Neg of) rest = refl
owners_more given (Mul left right) rest = refl
owners_more given (Rot g of) rest = refl

-- where the places of some nodes are done, so are all at the end
pub walks : (p : Params) (threshold : ℕ) (keys : Keys) (s : List ℕ) (nodes : List Node) (values : List (List ℕ)) (inputs : List Cipher) (before rest : List Node) (given : ℕ)
    (bounds : List ℕ) (ciphers : List Cipher) (plains : List (List ℕ)) →
    0 < p.q → 0 < p.t → first_fault p.n p.t p.parties nodes ≡ None → AreKeysFor p threshold s nodes keys → IsPoly p.q p.n s → AreInputs p threshold s nodes values inputs →
    nodes ≡ before ++ rest → given + length (owners rest) ≡ length (owners nodes) → Walked p threshold s nodes (length before) bounds ciphers plains →
    Walked p threshold s nodes (length nodes) (bounds_from (numbers_for p threshold) nodes bounds rest) (ciphers_from (numbers_of p) keys inputs nodes ciphers given rest) (values_from p.n p.t values plains given rest)
unfolding bounds_from ciphers_from values_from
walks p threshold keys s nodes values inputs before [] given bounds ciphers plains h ht legal owned secret ready e all w =
    subst (λ (k : ℕ). Walked p threshold s nodes k bounds ciphers plains) (sym (ap length (e ∙ append-nil before))) w
walks p threshold keys s nodes values inputs before (node ∷ rest) given bounds ciphers plains h ht legal owned secret ready e all w =
    let k = length before in
    let at : slice_get nodes k ≡ Some node =
    ap (λ (xs : List Node). slice_get xs k) e
    ∙ slice_get-get_or (before ++ node ∷ rest) k node (omega (arith, length-append before (node ∷ rest)))
    ∙ ap Some (get_or_at before node rest node k refl) in
    let passed = owners_more given node rest in
    let v = node_bound (numbers_for p threshold) nodes bounds node in
    let c = node_cipher (numbers_of p) keys inputs nodes ciphers given node in
    let m = node_value p.n p.t values plains given node in
    let here : AllWithin p threshold nodes k bounds → Holds p s nodes k v c m =
    λ within. node_holds p threshold keys s nodes values inputs k given bounds ciphers plains node h ht owned secret ready
    (λ j l. w.each j l (λ some i below. within some i (omega (arith, l, below)))) within at (each_stands p.n p.t p.parties k nodes node legal at) (omega (arith, all, passed)) in
    walks p threshold keys s nodes values inputs (before ++ node ∷ []) rest (given_after given node) (bounds ++ v ∷ []) (ciphers ++ c ∷ []) (plains ++ m ∷ []) h ht legal owned secret ready
    (e ∙ sym (append_assoc before (node ∷ []) rest)) (sym passed ∙ all)
    (subst (λ (j : ℕ). Walked p threshold s nodes j (bounds ++ v ∷ []) (ciphers ++ c ∷ []) (plains ++ m ∷ [])) (sym (longer before node k refl))
    (walked_more p threshold s nodes k v c m bounds ciphers plains w here))
