-- What an operation gives is a polynomial of the ring.
use Rattle.std.proofs.Common.{map, ap, ◌∙◌, ◌≡◌, ℕ, ◌<◌, List, length, get_or, arith, ℤ, pos, negsuc}
use Rattle.std.specs.List.{range_with_len}
use Rattle.std.proofs.lemmas.List.{get_or-map, length-map}
use Rattle.std.proofs.lemmas.List.FromFn.{length-map-range_with_len, get_or-map-range_with_len, fill_by_all}
use Rattle.std.proofs.lemmas.List.Elements.{All-from_get_or}
use Rattle.ring_spec.specs.Ring.{IsPoly, signed, residue, residues, ring_sum, ring_difference, ring_negative, ring_multiple, ring_product, ring_turned}

pub residue-below : (q : ℕ) (z : ℤ) → 0 < q → residue q z < q
unfolding residue
residue-below q (pos a) h = omega arith
residue-below q (negsuc a) h = omega arith

pub residues-fit : (q n : ℕ) (a : ℕ → ℤ) (h : List ℕ) → h ≡ residues q n a → 0 < q → IsPoly q n h
unfolding residues
residues-fit q n a h e positive =
    let len = length-map-range_with_len (λ i. residue q (a i)) 0 n in
    let here : (i : ℕ) → i < n → get_or (map (λ j. residue q (a j)) (range_with_len 0 n)) i 0 < q = λ i lt.
    rw (get_or-map-range_with_len (λ j. residue q (a j)) 0 n i i 0 lt (omega arith)) (residue-below q (a i) positive) in
    record {
      entries = ap length e ∙ len;
      below = All-from_get_or (λ x. x < q) h 0 (λ i lt. rw e (here i (omega (arith, ap length e))));
    }

pub sum-fits : (q n : ℕ) (f g h : List ℕ) → h ≡ ring_sum q n f g → 0 < q → IsPoly q n h
unfolding ring_sum
sum-fits q n f g h e positive = residues-fit q n _ h e positive

pub difference-fits : (q n : ℕ) (f g h : List ℕ) → h ≡ ring_difference q n f g → 0 < q → IsPoly q n h
unfolding ring_difference
difference-fits q n f g h e positive = residues-fit q n _ h e positive

pub negative-fits : (q n : ℕ) (f h : List ℕ) → h ≡ ring_negative q n f → 0 < q → IsPoly q n h
unfolding ring_negative
negative-fits q n f h e positive = residues-fit q n _ h e positive

pub multiple-fits : (q n k : ℕ) (f h : List ℕ) → h ≡ ring_multiple q n k f → 0 < q → IsPoly q n h
unfolding ring_multiple
multiple-fits q n k f h e positive = residues-fit q n _ h e positive

pub product-fits : (q n : ℕ) (f g h : List ℕ) → h ≡ ring_product q n f g → 0 < q → IsPoly q n h
unfolding ring_product
product-fits q n f g h e positive = residues-fit q n _ h e positive

pub turned-fits : (q n g : ℕ) (f h : List ℕ) → h ≡ ring_turned q n g f → 0 < q → IsPoly q n h
unfolding ring_turned
turned-fits q n g f h e positive = residues-fit q n _ h e positive

-- for the tactics
pub ruleset fits = (residues-fit, sum-fits, difference-fits, negative-fits, multiple-fits, product-fits)

-- ---- the residues of a list of whole numbers

pub residues-of-list : (q n : ℕ) (xs : List ℤ) (h : List ℕ) → h ≡ map (residue q) xs → length xs ≡ n → h ≡ residues q n (signed xs)
unfolding residues
residues-of-list q n xs h e len =
    e ∙ fill_by_all (λ i. residue q (signed xs i)) (map (residue q) xs) n 0 (length-map xs (residue q) ∙ len) (λ k lt.
    let within : k < length xs = omega arith in get_or-map (residue q) xs k (pos 0) 0 within)

pub residues-of-list-fit : (q n : ℕ) (xs : List ℤ) (h : List ℕ) → h ≡ map (residue q) xs → length xs ≡ n → 0 < q → IsPoly q n h
residues-of-list-fit q n xs h e len positive =
    residues-fit q n (signed xs) h (residues-of-list q n xs h e len) positive

pub ruleset signed_ones = (residues-of-list, residues-of-list-fit)
