-- What a key switch adds to the noise: at most l * n * W * V, where each of its l rows has noise within V.
use Rattle.std.specs.Prelude.{◌≡◌, ℕ, ◌+◌, ◌*◌, ◌%◌, ◌^◌, ◌<◌, ◌≤◌, List, map}
use Rattle.std.specs.List.{range_with_len}
use Rattle.ring_spec.specs.Ring.{IsPoly, ring_difference, ring_multiple, ring_product, ring_turned, size}
use Rattle.ring_spec.specs.Pairs.{Cipher, CipherFits}
use Rattle.ring_spec.specs.Aggregate.{ring_total}
use Rattle.bfv_spec.specs.Scheme.{remainder, phase, Carries}
use Rattle.gadget_spec.specs.Digits.{Gadget, Serves, weight, widest, digit_poly}
use Rattle.gadget_spec.specs.Switching.{KeyRow, IsSwitchKey, key_switch, rotation}

-- what a switch adds where its key's rows have noise within v
abbrev pub switch_noise : ℕ → Gadget → ℕ → ℕ
switch_noise n g v = g.rows * n * widest g * v

-- ---- polynomials of digits

-- the polynomial of the digits i times its weight
abbrev pub weighted_poly : ℕ → ℕ → Gadget → List ℕ → ℕ → List ℕ
weighted_poly q n g f i = ring_multiple q n (weight g i) (digit_poly q n g f i)

-- the polynomials of digits times their weights sum to the polynomial
abbrev pub PolynomialsMakeUp : Type 0
PolynomialsMakeUp =
    (q n : ℕ) (g : Gadget) (f : List ℕ) → 0 < q → Serves q g → IsPoly q n f
    → ring_total q n (map (weighted_poly q n g f) (range_with_len 0 g.rows)) ≡ f

-- each is a polynomial of the ring
abbrev pub DigitsArePolynomials : Type 0
DigitsArePolynomials = (q n : ℕ) (g : Gadget) (f : List ℕ) (i : ℕ) → 0 < q → IsPoly q n (digit_poly q n g f i)

-- whose size is at most W
abbrev pub PolynomialsAreSmall : Type 0
PolynomialsAreSmall =
    (q n : ℕ) (g : Gadget) (f : List ℕ) (i : ℕ) → 0 < q → Serves q g → IsPoly q n f → i < g.rows
    → size q (digit_poly q n g f i) ≤ widest g

-- ---- switches

-- the phase of f switched by a key for z is f * z, but for a little noise
abbrev pub SwitchesAddLittle : Type 0
SwitchesAddLittle =
    (q n v : ℕ) (g : Gadget) (s z : List ℕ) (key : List KeyRow) (f : List ℕ)
    → 0 < q → Serves q g → IsPoly q n f → IsSwitchKey q n g s z v key
    → size q (ring_difference q n (phase q n s (key_switch q n g key f)) (ring_product q n f z)) ≤ switch_noise n g v

-- what is switched, or rotated, is a ciphertext of the ring
abbrev pub SwitchesFit : Type 0
SwitchesFit = (q n : ℕ) (g : Gadget) (key : List KeyRow) (f : List ℕ) → 0 < q → CipherFits q n (key_switch q n g key f)

abbrev pub RotationsFit : Type 0
RotationsFit = (q n e : ℕ) (g : Gadget) (key : List KeyRow) (c : Cipher) → 0 < q → CipherFits q n (rotation q n g key e c)

-- ---- rotations

-- the phase of a rotation is the phase with X^e for X, but for as little
abbrev pub RotationsAddLittle : Type 0
RotationsAddLittle =
    (q n e v : ℕ) (g : Gadget) (s : List ℕ) (key : List KeyRow) (c : Cipher)
    → 0 < q → e % 2 ≡ 1 → Serves q g → IsSwitchKey q n g s (ring_turned q n e s) v key
    → size q (ring_difference q n (phase q n s (rotation q n g key e c)) (ring_turned q n e (phase q n s c))) ≤ switch_noise n g v

-- so it carries the plaintext with X^e for X: r is added where that changes signs, and what the switch adds
abbrev pub RotationsCarry : Type 0
RotationsCarry =
    (q n d t e v w : ℕ) (g : Gadget) (s : List ℕ) (key : List KeyRow) (c : Cipher) (m : List ℕ)
    → 0 < q → 0 < t → n ≡ 2 ^ d → e % 2 ≡ 1 → Serves q g → IsPoly t n m
    → Carries q n t s v c m → IsSwitchKey q n g s (ring_turned q n e s) w key
    → Carries q n t s (v + remainder q t + switch_noise n g w) (rotation q n g key e c) (ring_turned t n e m)
