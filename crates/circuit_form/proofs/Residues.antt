-- Residues: of a difference of two numbers, and of the coefficients of a polynomial one by one.
use Rattle.std.proofs.Common.{◌≡◌, ℕ, ◌+◌, ◌-◌, ◌/◌, ◌%◌, ◌<◌, List, [], ◌∷◌, ◌++◌, sym, subst, refl, arith}
use Rattle.std.specs.Prelude.{ℤ, pos, ◌+ℤ◌, ◌-ℤ◌, neg_ℤ}
use Rattle.std.proofs.lemmas.Int.{ints}
use Rattle.std.proofs.lemmas.List.FromFn.{map-range_with_len_more}
use Rattle.ring_spec.specs.Ring.{residue, residues, IsPoly}
use Rattle.ring_laws.proofs.Integers.{sums, times_sum, times_negative}
use Rattle.ring_laws.proofs.Congruences.{residue_unique}
use Rattle.ring_laws.proofs.Residues.{residues_poly}

-- two remainders give the residue of the difference
pub reduced_is : (q a b : ℕ) → 0 < q → (a % q + q - b % q) % q ≡ residue q (pos a -ℤ pos b)
reduced_is q a b h =
    let d = a % q + q - b % q in
    let up : ℕ = 1 + b / q in
    let down : ℕ = a / q + d / q in
    sym (residue_unique q (d % q) (pos a -ℤ pos b) (omega arith) (record {
      k = pos up +ℤ neg_ℤ (pos down);
      is = omega (arith, ints, sums, times_sum (pos q) (pos up) (neg_ℤ (pos down)), times_negative (pos q) (pos down));
    }))

-- the residues of no coefficient, and of one more
pub residues_none : (q : ℕ) (a : ℕ → ℤ) → residues q 0 a ≡ []
unfolding residues
residues_none q a = refl

pub residues_more : (q k : ℕ) (a : ℕ → ℤ) → residues q (k + 1) a ≡ residues q k a ++ residue q (a k) ∷ []
unfolding residues
residues_more q k a = map-range_with_len_more (λ i. residue q (a i)) 0 k k (omega arith)

-- a list of residues is a polynomial
pub residues_fit : (q n : ℕ) (a : ℕ → ℤ) (f : List ℕ) → f ≡ residues q n a → 0 < q → IsPoly q n f
residues_fit q n a f e h = subst (IsPoly q n) (sym e) (residues_poly q n a h)

-- for the tactics
pub ruleset one_by_one = (residues_none, residues_more, residues_fit)
