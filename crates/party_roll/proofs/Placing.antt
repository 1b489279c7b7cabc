-- The values that are placed.
use Rattle.std.proofs.Common.{◌≡◌, ℕ, Bool, true, false, cond, List, [], ◌∷◌, refl, subst}
use Rattle.std.specs.Prelude.{Option, Some, None, IsSome, ◌<◌, nat_eq, All}
use Rattle.std.specs.List.{find}
use Rattle.std.specs.Option.{option_map}
use Rattle.std.proofs.lemmas.Bool.{and_parts, eqb-true}
use Rattle.std.proofs.lemmas.List.Elements.{All-head, All-tail}
use Rattle.ring_spec.specs.Ring.{IsPoly}
use Rattle.party_roll.specs.declared.placed.Placed.{Placed}
use Rattle.party_roll.specs.Values.{is_at, value_of, value_in, IsPlain, HasStream}

-- what holds of each entry holds of the one that is found
found_or_later : {X : Type 0} (P : X → Type 0) (b : Bool) (x y : X) (later : Option X) → P x → (later ≡ Some y → P y) → cond b (Some x) later ≡ Some y → P y
found_or_later P true x y later h k e = let same : x ≡ y = cc in subst P same h
found_or_later P false x y later h k e = k e

found : {X : Type 0} (P : X → Type 0) (test : X → Bool) (xs : List X) (y : X) → All P xs → find test xs ≡ Some y → P y
found P test [] y h e = cc
found P test (x ∷ xs) y h e = found_or_later P (test x) x y (find test xs) (All-head P x xs h) (found P test xs y (All-tail P x xs h)) e

-- and it passes the test
passed_or_later : {X : Type 0} (test : X → Bool) (b : Bool) (x y : X) (later : Option X) → test x ≡ b → (later ≡ Some y → test y ≡ true) → cond b (Some x) later ≡ Some y → test y ≡ true
passed_or_later test true x y later h k e = let same : x ≡ y = cc in subst (λ z. test z ≡ true) same h
passed_or_later test false x y later h k e = k e

passes : {X : Type 0} (test : X → Bool) (xs : List X) (y : X) → find test xs ≡ Some y → test y ≡ true
passes test [] y e = cc
passes test (x ∷ xs) y e = passed_or_later test (test x) x y (find test xs) refl (passes test xs y) e

plain_of : (t n : ℕ) (m : List ℕ) (all : List Placed) (circuit input : ℕ) (entry : Option Placed)
    → All (IsPlain t n) all → find (is_at circuit input) all ≡ entry → option_map value_of entry ≡ Some m → IsPoly t n m
plain_of t n m all circuit input None h e f = cc
plain_of t n m all circuit input (Some placed) h e f =
    let same : value_of placed ≡ m = cc in
    subst (IsPoly t n) same (found (IsPlain t n) (is_at circuit input) all placed h e)

-- a value that is found is a plaintext where all are
pub value_in_plain : (t n : ℕ) (all : List Placed) (circuit input : ℕ) (m : List ℕ) → All (IsPlain t n) all → value_in all circuit input ≡ Some m → IsPoly t n m
unfolding value_in
value_in_plain t n all circuit input m h e = plain_of t n m all circuit input (find (is_at circuit input) all) h refl e

stream_of : (all : List Placed) (circuit input : ℕ) (entry : Option Placed)
    → All HasStream all → find (is_at circuit input) all ≡ entry → IsSome (option_map value_of entry) → (circuit < 65536) × (input < 65536)
stream_of all circuit input None h e s = absurd cc
stream_of all circuit input (Some placed) h e s =
    let at = and_parts (nat_eq placed.circuit circuit) (nat_eq placed.input input) (passes (is_at circuit input) all placed e) in
    let below = found HasStream (is_at circuit input) all placed h e in
    (subst (λ (c : ℕ). c < 65536) (eqb-true placed.circuit circuit at.0) below.0, subst (λ (k : ℕ). k < 65536) (eqb-true placed.input input at.1) below.1)

-- an input at which a value is found has a stream where all have
pub value_in_stream : (all : List Placed) (circuit input : ℕ) → All HasStream all → IsSome (value_in all circuit input) → (circuit < 65536) × (input < 65536)
unfolding value_in
value_in_stream all circuit input h s = stream_of all circuit input (find (is_at circuit input) all) h refl s
