-- Key switching, and the rotations that stand on it. After Fan and Vercauteren 2012, section 4.
use Rattle.std.specs.Prelude.{◌≡◌, ℕ, ◌<◌, ◌≤◌, List, [], ◌∷◌, length, get_or, replicate}
use Rattle.ring_spec.specs.Ring.{Coefficients, IsPoly, ring_sum, ring_difference, ring_multiple, ring_product, ring_turned, size}
use Rattle.ring_spec.specs.Pairs.{Cipher}
use Rattle.bfv_spec.specs.Scheme.{cipher_sum}
use Rattle.gadget_spec.specs.Digits.{Gadget, weight, digit_polys}

-- ---- keys

-- a row (b, a) of a switch key
pub record KeyRow : Type 0 where
  pub b : Coefficients
  pub a : Coefficients

-- row i of a key
abbrev pub row_at : List KeyRow → ℕ → KeyRow
row_at key i = get_or key i (record { b = []; a = [] })

-- the phase of a row under the secret s: b + a * s
unfoldable pub row_phase : ℕ → ℕ → Coefficients → KeyRow → Coefficients
row_phase q n s row = ring_sum q n row.b (ring_product q n row.a s)

-- rows are a switch key for z within v under s where there is one for each digit, and the phase of row i less
-- its weight times z has size at most v
pub record IsSwitchKey (q n : ℕ) (g : Gadget) (s z : Coefficients) (v : ℕ) (key : List KeyRow) : Type 0 where
  pub rows : length key ≡ g.rows
  pub noise : (i : ℕ) → i < g.rows → size q (ring_difference q n (row_phase q n s (row_at key i)) (ring_multiple q n (weight g i) z)) ≤ v

-- ---- switches

-- the sum of polynomials times the rows beside them
unfoldable pub combined : ℕ → ℕ → List KeyRow → List Coefficients → Cipher
combined q n [] ds = record { c0 = replicate n 0; c1 = replicate n 0 }
combined q n (row ∷ rows) [] = record { c0 = replicate n 0; c1 = replicate n 0 }
combined q n (row ∷ rows) (d ∷ ds) =
    cipher_sum q n (record { c0 = ring_product q n d row.b; c1 = ring_product q n d row.a }) (combined q n rows ds)

-- a polynomial f switched by a key: the sum of digit i of f times row i, on both parts
unfoldable pub key_switch : ℕ → ℕ → Gadget → List KeyRow → Coefficients → Cipher
key_switch q n g key f = combined q n key (digit_polys q n g f)

-- X becomes X^e in a ciphertext, by the key for s with X^e for X: (c0 with X^e, 0), and c1 with X^e switched
unfoldable pub rotation : ℕ → ℕ → Gadget → List KeyRow → ℕ → Cipher → Cipher
rotation q n g key e c =
    cipher_sum q n (record { c0 = ring_turned q n e c.c0; c1 = replicate n 0 }) (key_switch q n g key (ring_turned q n e c.c1))
