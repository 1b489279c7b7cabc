-- The digits of the coefficients, one after the other.
use Rattle.std.proofs.Common.{◌≡◌, ℕ, ◌≤◌, List, length, get_or, ap, ◌∙◌, arith}
use Rattle.std.specs.Prelude.{Bool}
use Rattle.ring_spec.specs.Ring.{residue, residues, IsPoly}
use Rattle.gadget_spec.specs.Digits.{digit, digit_poly}
use Rattle.gadget_laws.proofs.Polynomials.{digits_are_polynomials}
use Rattle.param_set.specs.Moduli.{digit_rows}
use Rattle.param_set.specs.declared.params.Params.{Params}
use Rattle.mod_ring.proofs.Filled.{Filled, Filled-end}
use Rattle.gadget_keys.specs.Gadgets.{gadget_of}

-- the residue of digit i of the coefficient at a place
abbrev pub entry : Params → List ℕ → ℕ → ℕ → ℕ
entry p f i k = residue p.q (digit p.q (gadget_of p) i (get_or f k 0))

-- the same by numbers that are those of the parameters
pub entry_is : (p : Params) (f coeffs : List ℕ) (i k m b l r : ℕ) (balanced : Bool) (v : ℕ) → coeffs ≡ f →
    m ≡ p.q → b ≡ p.digit_bits → l ≡ digit_rows p.q p.digit_bits → r ≡ i → balanced ≡ p.balanced →
    v ≡ residue m (digit m (record { bits = b; rows = l; balanced = balanced }) r (get_or coeffs k 0)) → v ≡ entry p f i k
entry_is p f coeffs i k m b l r balanced v ef em eb el er et e =
    let x = get_or f k 0 in
    e ∙ ap (λ (y : List ℕ). residue m (digit m (record { bits = b; rows = l; balanced = balanced }) r (get_or y k 0))) ef
    ∙ ap (λ (y : ℕ). residue y (digit y (record { bits = b; rows = l; balanced = balanced }) r x)) em
    ∙ ap (λ (y : ℕ). residue p.q (digit p.q (record { bits = y; rows = l; balanced = balanced }) r x)) eb
    ∙ ap (λ (y : ℕ). residue p.q (digit p.q (record { bits = p.digit_bits; rows = y; balanced = balanced }) r x)) el
    ∙ ap (λ (y : ℕ). residue p.q (digit p.q (record { bits = p.digit_bits; rows = digit_rows p.q p.digit_bits; balanced = balanced }) y x)) er
    ∙ ap (λ (y : Bool). residue p.q (digit p.q (record { bits = p.digit_bits; rows = digit_rows p.q p.digit_bits; balanced = y }) i x)) et

pub written_is : (p : Params) (f was now : List ℕ) (i k : ℕ) → length now ≡ p.n → p.n ≤ k → Filled (entry p f i) was now k →
    now ≡ digit_poly p.q p.n (gadget_of p) f i
unfolding digit_poly residues
written_is p f was now i k len end filled = Filled-end (entry p f i) was now p.n k len end filled

pub digits_fit : (p : Params) (f now : List ℕ) (i : ℕ) → now ≡ digit_poly p.q p.n (gadget_of p) f i → IsPoly p.q p.n now
digits_fit p f now i e = rw e (digits_are_polynomials p.q p.n (gadget_of p) f i (omega (arith, p.modulus.0)))
