-- Numbers and texts in a row.
use Rattle.std.specs.Prelude.{ℕ, List, [], ◌∷◌, ◌++◌, codes, decimal}
use Rattle.std.specs.List.{flat_map}

-- a number behind a space
abbrev pub after_space : ℕ → List ℕ
after_space x = codes " " ++ decimal x

-- numbers in decimal, one space before each
unfoldable pub following : List ℕ → List ℕ
following xs = flat_map after_space xs

-- a text behind a comma
abbrev pub after_comma : List ℕ → List ℕ
after_comma t = codes "," ++ t

-- texts in a row, one comma between each and the next
unfoldable pub by_commas : List (List ℕ) → List ℕ
by_commas [] = []
by_commas (t ∷ ts) = t ++ flat_map after_comma ts

-- the same, and `-` for none
unfoldable pub or_dash : List (List ℕ) → List ℕ
or_dash [] = codes "-"
or_dash (t ∷ ts) = by_commas (t ∷ ts)
