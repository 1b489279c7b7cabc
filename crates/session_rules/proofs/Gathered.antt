-- What is gathered from one number after the other.
use Rattle.std.proofs.Common.{◌≡◌, ℕ, zero, suc, ◌+◌, List, [], ◌∷◌, ◌++◌, ap, ◌∙◌, arith}
use Rattle.std.specs.List.{range_with_len, flat_map}
use Rattle.std.proofs.lemmas.List.{append-nil}
use Rattle.std.proofs.lemmas.Grind.{flat_map-append}

range_more : (n a : ℕ) → range_with_len a (suc n) ≡ range_with_len a n ++ (a + n) ∷ []
range_more zero a = ap (λ (z : ℕ). z ∷ []) (omega arith)
range_more (suc n) a = ap (λ (zs : List ℕ). a ∷ zs) (range_more n (a + 1) ∙ ap (λ (z : ℕ). range_with_len (a + 1) n ++ z ∷ []) (omega arith))

pub gathered-next : {A : Type 0} (f : ℕ → List A) (n : ℕ) → flat_map f (range_with_len 0 (n + 1)) ≡ flat_map f (range_with_len 0 n) ++ f n
gathered-next {A = A} f n =
    (let e : n + 1 ≡ suc n = omega arith in ap (λ (z : ℕ). flat_map f (range_with_len 0 z)) e)
    ∙ ap (flat_map f) (range_more n 0) ∙ flat_map-append f (range_with_len 0 n) ((0 + n) ∷ [])
    ∙ ap (λ (zs : List A). flat_map f (range_with_len 0 n) ++ zs) (append-nil (f (0 + n)) ∙ ap f (omega arith))

pub ruleset one_by_one = (gathered-next)
