-- Texts in a row, one for each item, before the first one and behind one more.
use Rattle.std.proofs.Common.{◌≡◌, ◌∙◌, ap, sym, ℕ, zero, suc, ◌+◌, List, [], ◌∷◌, ◌++◌, arith}
use Rattle.std.specs.List.{range_with_len, flat_map}
use Rattle.std.proofs.lemmas.List.{append-nil}

pub none_yet : {X : Type 0} (f : X → List ℕ) (bs : List ℕ) → bs ≡ bs ++ flat_map f []
none_yet f bs = sym (append-nil bs)

range_more : (n a : ℕ) → range_with_len a (suc n) ≡ range_with_len a n ++ (a + n) ∷ []
range_more zero a = ap (λ (z : ℕ). z ∷ []) (omega arith)
range_more (suc n) a = ap (λ (zs : List ℕ). a ∷ zs) (range_more n (a + 1) ∙ ap (λ (z : ℕ). range_with_len (a + 1) n ++ z ∷ []) (omega arith))

-- the places below n + 1 are those below n, and n
pub range_next : (n : ℕ) → range_with_len 0 (suc n) ≡ range_with_len 0 n ++ n ∷ []
range_next n = range_more n 0 ∙ ap (λ (z : ℕ). range_with_len 0 n ++ z ∷ []) (omega arith)

pub range_push : (n : ℕ) → range_with_len 0 (n + 1) ≡ range_with_len 0 n ++ n ∷ []
range_push n = ap (range_with_len 0) (let e : n + 1 ≡ suc n = omega arith in e) ∙ range_next n
