-- The rows of honest shares: how many, and of the ring.
use Rattle.std.proofs.Common.{ℕ, zero, suc, ◌+◌, ◌*◌, ◌<◌, List, [], ◌∷◌, map, get_or, refl, arith}
use Rattle.std.specs.List.{range_with_len, flat_map}
use Rattle.std.proofs.lemmas.List.FromFn.{length-map-range_with_len, get_or-map-range_with_len}
use Rattle.std.proofs.lemmas.List.Elements.{All-from_get_or, All-cons, All-nil}
use Rattle.ring_spec.specs.Ring.{IsPoly, ring_sum, ring_difference, ring_product}
use Rattle.ring_spec.specs.Ring.{ring_turned}
use Rattle.bfv_spec.specs.Shares.{common_poly}
use Rattle.gadget_spec.specs.Digits.{weight}
use Rattle.key_spec.specs.Rounds.{switch_share}
use Rattle.key_spec.specs.Rotations.{rotation_noise, rotation_row, honest_rotation}
use Rattle.key_spec.specs.Relinearisation.{ephemeral, first_round_noise, first_round_rows, honest_first_round, second_round_noise, second_round_rows, honest_second_round}
use Rattle.key_laws.specs.Shapes.{IsShare, RotationSharesFit, FirstSharesFit, SecondSharesFit}
use Rattle.ring_laws.proofs.Residues.{sum_poly}
use Rattle.key_laws.proofs.Totals.{share_poly}

pub rotation_shares_fit : RotationSharesFit
unfolding honest_rotation rotation_row
rotation_shares_fit q n b e id g public seed part h =
    let f = rotation_row q n g b e public seed id part in
    record {
      entries = length-map-range_with_len f 0 g.rows;
      fit = All-from_get_or (IsPoly q n) (map f (range_with_len 0 g.rows)) []
          (λ i l. let l' : i < g.rows = omega (arith, length-map-range_with_len f 0 g.rows) in
          rw (get_or-map-range_with_len f 0 g.rows i i [] l' (omega arith))
          (share_poly q n (weight g i) (common_poly q n public id i) part (ring_turned q n e part) (rotation_noise q n b seed id i) h));
    }

-- two rows for each number
pairs_fit : (q n : ℕ) (f g : ℕ → List ℕ) (a l : ℕ) → ((i : ℕ) → IsPoly q n (f i)) → ((i : ℕ) → IsPoly q n (g i)) → IsShare q n (2 * l) (flat_map (λ i. f i ∷ g i ∷ []) (range_with_len a l))
pairs_fit q n f g a zero pf pg = record { entries = refl; fit = All-nil (IsPoly q n) }
pairs_fit q n f g a (suc l) pf pg =
    let rest = pairs_fit q n f g (a + 1) l pf pg in
    let later = flat_map (λ i. f i ∷ g i ∷ []) (range_with_len (a + 1) l) in
    record { entries = omega (arith, rest.entries); fit = All-cons (IsPoly q n) (f a) (g a ∷ later) (pf a) (All-cons (IsPoly q n) (g a) later (pg a) rest.fit) }

pub first_shares_fit : FirstSharesFit
unfolding honest_first_round first_round_rows
first_shares_fit q n b id g public seed part h =
    pairs_fit q n
    (λ i. switch_share q n (weight g i) (common_poly q n public id i) (ephemeral q n seed id) part (first_round_noise q n b seed id (2 * i)))
    (λ i. ring_sum q n (ring_product q n part (common_poly q n public id i)) (first_round_noise q n b seed id (2 * i + 1)))
    0 g.rows
    (λ i. share_poly q n (weight g i) (common_poly q n public id i) (ephemeral q n seed id) part (first_round_noise q n b seed id (2 * i)) h)
    (λ i. sum_poly q n (ring_product q n part (common_poly q n public id i)) (first_round_noise q n b seed id (2 * i + 1)) h)

pub second_shares_fit : SecondSharesFit
unfolding honest_second_round second_round_rows
second_shares_fit q n b first id g seed part sums h =
    pairs_fit q n
    (λ i. ring_sum q n (ring_product q n part (get_or sums (2 * i) [])) (second_round_noise q n b seed id (2 * i)))
    (λ i. ring_sum q n (ring_product q n (ring_difference q n (ephemeral q n seed first) part) (get_or sums (2 * i + 1) [])) (second_round_noise q n b seed id (2 * i + 1)))
    0 g.rows
    (λ i. sum_poly q n (ring_product q n part (get_or sums (2 * i) [])) (second_round_noise q n b seed id (2 * i)) h)
    (λ i. sum_poly q n (ring_product q n (ring_difference q n (ephemeral q n seed first) part) (get_or sums (2 * i + 1) [])) (second_round_noise q n b seed id (2 * i + 1)) h)
