-- A key switch as a sum of products, whose order is free.
use Rattle.std.specs.Prelude.{◌≡◌, ℕ, ◌<◌, List, map, length}
use Rattle.std.specs.List.{range_with_len}
use Rattle.ring_spec.specs.Ring.{ring_product}
use Rattle.ring_spec.specs.Aggregate.{ring_total}
use Rattle.gadget_spec.specs.Digits.{Gadget, digit_poly}
use Rattle.gadget_spec.specs.Switching.{KeyRow, row_at, key_switch}

-- digit i of f times either part of row i
abbrev pub product_b : ℕ → ℕ → Gadget → List KeyRow → List ℕ → ℕ → List ℕ
product_b q n g key f i = ring_product q n (digit_poly q n g f i) (row_at key i).b

abbrev pub product_a : ℕ → ℕ → Gadget → List KeyRow → List ℕ → ℕ → List ℕ
product_a q n g key f i = ring_product q n (digit_poly q n g f i) (row_at key i).a

-- each part of a switch is the sum of these products
abbrev pub SwitchesAreTotals : Type 0
SwitchesAreTotals =
    (q n : ℕ) (g : Gadget) (key : List KeyRow) (f : List ℕ) → 0 < q → length key ≡ g.rows
    → ((key_switch q n g key f).c0 ≡ ring_total q n (map (product_b q n g key f) (range_with_len 0 g.rows)))
    × ((key_switch q n g key f).c1 ≡ ring_total q n (map (product_a q n g key f) (range_with_len 0 g.rows)))
