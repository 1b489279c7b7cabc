-- Numbers in a row, one at a time, and the text of a value from the coefficients that are kept.
use Rattle.std.proofs.Common.{◌≡◌, ◌∙◌, ap, sym, ℕ, ◌+◌, ◌<◌, List, [], ◌∷◌, ◌++◌, length, get_or, take, append_assoc, codes, refl, arith}
use Rattle.std.specs.Prelude.{decimal}
use Rattle.std.specs.List.{flat_map}
use Rattle.std.proofs.lemmas.List.{take_more, append-nil, flat_map_more, nil_from_length}
use Rattle.run_report.specs.Values.{following, spaced, trimmed, or_zero, value_text}

pub following-none : (bs : List ℕ) → bs ≡ bs ++ following []
unfolding following
following-none bs = sym (append-nil bs)

pub following_more : (bs xs : List ℕ) (i : ℕ) → i < length xs → ((bs ++ following (take i xs)) ++ 32 ∷ []) ++ decimal (get_or xs i 0) ≡ bs ++ following (take (i + 1) xs)
unfolding following
following_more bs xs i here =
    let f = λ (x : ℕ). codes " " ++ decimal x in
    append_assoc (bs ++ flat_map f (take i xs)) (32 ∷ []) (decimal (get_or xs i 0)) ∙ flat_map_more f bs (take i xs) (get_or xs i 0) ∙ ap (λ t. bs ++ flat_map f t) (sym (take_more xs i 0 here))

pub or_zero-same : (xs : List ℕ) → 0 < length xs → or_zero xs ≡ xs
or_zero-same [] h = absurd (omega arith)
or_zero-same (x ∷ xs) h = refl

-- the text where coefficients are kept
pub value-kept : (coeffs kept : List ℕ) → kept ≡ trimmed coeffs → 0 < length kept → spaced kept ≡ value_text coeffs
unfolding value_text
value-kept coeffs kept e some = ap spaced (sym (or_zero-same kept some) ∙ ap or_zero e)

-- the text where none is kept
pub value-zero : (coeffs kept : List ℕ) → kept ≡ trimmed coeffs → length kept ≡ 0 → spaced (0 ∷ []) ≡ value_text coeffs
unfolding value_text
value-zero coeffs kept e none = ap (λ xs. spaced (or_zero xs)) (sym (nil_from_length kept none) ∙ e)

-- for the tactics
pub ruleset rows = (following-none, following_more)
