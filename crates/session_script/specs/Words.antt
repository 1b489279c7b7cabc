-- The parts of a text of bytes: its lines and words, and what a word spells.
use Rattle.std.specs.Prelude.{ℕ, ◌+◌, ◌-◌, ◌*◌, ◌^◌, ◌==◌, ◌&&◌, nat_lt, nat_le, Bool, if◌then◌else◌, List, [], ◌∷◌, map, length, Option, Some, None}
use Rattle.std.specs.List.{slice_split}
use Rattle.std.specs.Borrow.{Bor}

-- the texts of a list of slices
abbrev pub texts : List (Bor (List ℕ)) → List (List ℕ)
texts slices = map (λ slice. slice.now) slices

-- the pieces of a text between the bytes c; where it ends in c, the last piece is empty
unfoldable pub parts_at : ℕ → List ℕ → List (List ℕ)
parts_at c text = slice_split (λ b. b == c) text

-- whether a byte is one of `0` to `9`
abbrev pub is_digit : ℕ → Bool
is_digit b = nat_le 48 b && nat_le b 57

-- the number below 2^64 whose digits are those of the number v and then these
unfoldable pub digits_behind : ℕ → List ℕ → Option ℕ
digits_behind v [] = Some v
digits_behind v (b ∷ rest) =
    if is_digit b && nat_lt (v * 10 + (b - 48)) (2 ^ 64) then digits_behind (v * 10 + (b - 48)) rest else None

-- the number that a word spells: decimal digits, no zero before another digit, below 2^64
unfoldable pub number : List ℕ → Option ℕ
number [] = None
number (b ∷ rest) = if b == 48 && nat_lt 0 (length rest) then None else digits_behind 0 (b ∷ rest)
