-- A key switch: its phase is the polynomial times z, and at most l * n * W * V of noise.
use Rattle.std.proofs.Common.{◌≡◌, ℕ, ◌*◌, ◌≤◌, ◌<◌, List, [], map, length, ap, arith}
use Rattle.std.specs.Prelude.{All}
use Rattle.std.specs.List.{range_with_len}
use Rattle.std.proofs.lemmas.List.FromFn.{length-map-range_with_len, get_or-map-range_with_len}
use Rattle.std.proofs.lemmas.List.Elements.{All-from_get_or}
use Rattle.ring_spec.specs.Ring.{wrapped, plus, minus, coefficient, size, IsPoly, ring_difference, ring_product}
use Rattle.bfv_spec.specs.Scheme.{phase}
use Rattle.gadget_spec.specs.Digits.{Gadget, Serves, weight, widest, digit_poly, digit_polys}
use Rattle.gadget_spec.specs.Switching.{KeyRow, IsSwitchKey, key_switch}
use Rattle.gadget_laws.specs.Switching.{switch_noise, SwitchesAddLittle}
use Rattle.ring_laws.proofs.Integers.{sums}
use Rattle.ring_laws.proofs.Congruences.{agree_equal, agree_self, agree_chain, agree_sum, agree_product}
use Rattle.ring_laws.proofs.Residues.{difference_poly}
use Rattle.ring_laws.proofs.Rings.{difference_agrees, product_agrees}
use Rattle.ring_laws.proofs.Sizes.{size_within, within_more}
use Rattle.gadget_laws.proofs.Polynomials.{digits_are_polynomials, polynomials_are_small, digits_agree}
use Rattle.gadget_laws.proofs.Combined.{IsMultiple, combined_is}

-- the polynomials of digits are one for each row
digits_length : (q n : ℕ) (g : Gadget) (f : List ℕ) → length (digit_polys q n g f) ≡ g.rows
unfolding digit_polys
digits_length q n g f = length-map-range_with_len (digit_poly q n g f) 0 g.rows

-- what holds of each holds of all
digits_all : (q n : ℕ) (g : Gadget) (f : List ℕ) (P : List ℕ → Type 0) → ((i : ℕ) → i < g.rows → P (digit_poly q n g f i)) → All P (digit_polys q n g f)
unfolding digit_polys
digits_all q n g f P h =
    All-from_get_or P (map (digit_poly q n g f) (range_with_len 0 g.rows)) []
    (λ i l. let l' : i < g.rows = omega (arith, length-map-range_with_len (digit_poly q n g f) 0 g.rows) in
    rw (get_or-map-range_with_len (digit_poly q n g f) 0 g.rows i i [] l' (omega arith)) (h i l'))

pub switch_is : (q n v : ℕ) (g : Gadget) (s z : List ℕ) (key : List KeyRow) (f : List ℕ) → 0 < q → Serves q g → IsPoly q n f → IsSwitchKey q n g s z v key →
    IsMultiple q n s z (switch_noise n g v) (key_switch q n g key f) (coefficient f)
unfolding key_switch
switch_is q n v g s z key f h serves p owns =
    let ds = digit_polys q n g f in
    let Z = coefficient z in
    let all = combined_is q n (widest g) v s z (weight g) key ds h (omega (arith, owns.rows, digits_length q n g f))
    (digits_all q n g f (IsPoly q n) (λ i l. digits_are_polynomials q n g f i h))
    (digits_all q n g f (λ d. size q d ≤ widest g) (λ i l. polynomials_are_small q n g f i h serves p l))
    (λ i l. owns.noise i (omega (arith, owns.rows))) in
    record {
      noise = all.noise;
      agrees = agree_chain all.agrees (agree_sum (agree_product (digits_agree q n g f h serves p) (agree_self q n Z)) (agree_self q n all.noise));
      within = within_more n (length key * (n * widest g * v)) (g.rows * n * widest g * v) all.noise
          (let e : length key * (n * widest g * v) ≡ g.rows * (n * widest g * v) = ap (λ (x : ℕ). x * (n * widest g * v)) owns.rows in omega (arith, e)) all.within;
    }

pub switches_add_little : SwitchesAddLittle
switches_add_little q n v g s z key f h serves p owns =
    let F = coefficient f in let Z = coefficient z in
    let c = key_switch q n g key f in
    let switched = switch_is q n v g s z key f h serves p owns in
    let P = wrapped n F Z in
    size_within (switch_noise n g v) (ring_difference q n (phase q n s c) (ring_product q n f z)) switched.noise
    (difference_poly q n (phase q n s c) (ring_product q n f z) h)
    (agree_chain (difference_agrees (phase q n s c) (ring_product q n f z) h switched.agrees (product_agrees f z h (agree_self q n F) (agree_self q n Z)))
    (agree_equal q n (minus (plus P switched.noise) P) switched.noise (λ i l. omega (arith, sums))))
    switched.within
