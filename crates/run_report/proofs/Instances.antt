-- Worked instances of the text of a value.
use Rattle.std.proofs.Common.{◌≡◌, refl, [], ◌∷◌, codes}
use Rattle.std.specs.Fmt.{digits}
use Rattle.run_report.specs.Values.{following, trimmed, value_text}

no_zeros : trimmed (8 ∷ 0 ∷ 1 ∷ 0 ∷ 0 ∷ []) ≡ 8 ∷ 0 ∷ 1 ∷ []
no_zeros = refl

inner_zero : value_text (8 ∷ 0 ∷ 1 ∷ 0 ∷ 0 ∷ 0 ∷ 0 ∷ 0 ∷ []) ≡ codes "8 0 1"
unfolding value_text following digits
inner_zero = refl

zeros_first : value_text (0 ∷ 0 ∷ 15 ∷ 0 ∷ []) ≡ codes "0 0 15"
unfolding value_text following digits
zeros_first = refl

all_zero : value_text (0 ∷ 0 ∷ 0 ∷ 0 ∷ []) ≡ codes "0"
unfolding value_text following digits
all_zero = refl

empty : value_text [] ≡ codes "0"
unfolding value_text following digits
empty = refl
