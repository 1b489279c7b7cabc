-- The text of a plain value.
use Rattle.std.specs.Prelude.{ℕ, cond, nat_eq, List, [], ◌∷◌, ◌++◌, codes, decimal}
use Rattle.std.specs.List.{flat_map}

-- x and then a list; nothing where x is 0 and the list is empty
abbrev pub led_by : ℕ → List ℕ → List ℕ
led_by x [] = cond (nat_eq x 0) [] (x ∷ [])
led_by x (y ∷ ys) = x ∷ y ∷ ys

-- a list without the zeros at its end
abbrev pub trimmed : List ℕ → List ℕ
trimmed [] = []
trimmed (x ∷ xs) = led_by x (trimmed xs)

-- a list, or 0 alone where it is empty
abbrev pub or_zero : List ℕ → List ℕ
or_zero [] = 0 ∷ []
or_zero (x ∷ xs) = x ∷ xs

-- numbers in decimal, one space before each
unfoldable pub following : List ℕ → List ℕ
following xs = flat_map (λ x. codes " " ++ decimal x) xs

-- numbers in decimal, one space between each and the next
abbrev pub spaced : List ℕ → List ℕ
spaced [] = []
spaced (x ∷ xs) = decimal x ++ following xs

-- the text of a value: its coefficients from the constant on, in decimal, one space between each and
-- the next, without the zeros at the end; `0` for the zero polynomial
unfoldable pub value_text : List ℕ → List ℕ
value_text coeffs = spaced (or_zero (trimmed coeffs))
