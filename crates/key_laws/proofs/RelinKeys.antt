-- The relinearisation key from the sums of honest shares of both rounds.
use Rattle.std.proofs.Common.{◌≡◌, ℕ, ◌+◌, ◌*◌, ◌≤◌, ◌<◌, List, [], map, length, get_or, subst, ap, ◌∙◌, arith}
use Rattle.std.specs.List.{range_with_len}
use Rattle.std.proofs.lemmas.List.FromFn.{length-map-range_with_len, get_or-map-range_with_len}
use Rattle.ring_spec.specs.Ring.{size, IsPoly, ring_sum, ring_difference, ring_product}
use Rattle.ring_spec.specs.Aggregate.{ring_total}
use Rattle.draw_spec.specs.Streams.{instance_stream}
use Rattle.bfv_spec.specs.Drawn.{small_poly}
use Rattle.bfv_spec.specs.Shares.{common_poly}
use Rattle.gadget_spec.specs.Digits.{Gadget, weight}
use Rattle.gadget_spec.specs.Switching.{row_at}
use Rattle.key_spec.specs.Rounds.{switch_share, share_row}
use Rattle.key_spec.specs.Relinearisation.{ephemeral, first_round_noise, first_round_rows, honest_first_round, second_round_noise, second_round_rows, honest_second_round, relin_key_row, relin_key}
use Rattle.key_laws.specs.Noise.{first_share, second_share, RelinKeysAreKeys}
use Rattle.ring_laws.proofs.Aggregates.{total_poly}
use Rattle.bfv_laws.proofs.Draws.{small_poly_is, size_small_poly, ternary_poly_is, size_ternary_poly}
use Rattle.key_laws.proofs.Totals.{map_same, total_small, shares_total, products_total, differences_total}
use Rattle.key_laws.proofs.Rows.{first_of_two, second_of_two}
use Rattle.key_laws.proofs.Noises.{relin_noise}

-- ---- the rows of honest shares

first_h0 : (q n b id : ℕ) (g : Gadget) (public : List ℕ) (seed part : ℕ → List ℕ) (i : ℕ) → i < g.rows → (j : ℕ) →
    share_row (first_share q n g b public id seed part) (2 * i) j
    ≡ switch_share q n (weight g i) (common_poly q n public id i) (ephemeral q n (seed j) id) (part j) (first_round_noise q n b (seed j) id (2 * i))
unfolding honest_first_round first_round_rows
first_h0 q n b id g public seed part i l j =
    let f = λ (k : ℕ). switch_share q n (weight g k) (common_poly q n public id k) (ephemeral q n (seed j) id) (part j) (first_round_noise q n b (seed j) id (2 * k)) in
    let f' = λ (k : ℕ). ring_sum q n (ring_product q n (part j) (common_poly q n public id k)) (first_round_noise q n b (seed j) id (2 * k + 1)) in
    first_of_two f f' g.rows 0 i l ∙ ap f (omega arith)

first_h1 : (q n b id : ℕ) (g : Gadget) (public : List ℕ) (seed part : ℕ → List ℕ) (i : ℕ) → i < g.rows → (j : ℕ) →
    share_row (first_share q n g b public id seed part) (2 * i + 1) j
    ≡ ring_sum q n (ring_product q n (part j) (common_poly q n public id i)) (first_round_noise q n b (seed j) id (2 * i + 1))
unfolding honest_first_round first_round_rows
first_h1 q n b id g public seed part i l j =
    let f = λ (k : ℕ). switch_share q n (weight g k) (common_poly q n public id k) (ephemeral q n (seed j) id) (part j) (first_round_noise q n b (seed j) id (2 * k)) in
    let f' = λ (k : ℕ). ring_sum q n (ring_product q n (part j) (common_poly q n public id k)) (first_round_noise q n b (seed j) id (2 * k + 1)) in
    second_of_two f f' g.rows 0 i l ∙ ap f' (omega arith)

second_k0 : (q n b first id : ℕ) (g : Gadget) (sums : List (List ℕ)) (seed part : ℕ → List ℕ) (i : ℕ) → i < g.rows → (j : ℕ) →
    share_row (second_share q n g b first id sums seed part) (2 * i) j
    ≡ ring_sum q n (ring_product q n (part j) (get_or sums (2 * i) [])) (second_round_noise q n b (seed j) id (2 * i))
unfolding honest_second_round second_round_rows
second_k0 q n b first id g sums seed part i l j =
    let f = λ (k : ℕ). ring_sum q n (ring_product q n (part j) (get_or sums (2 * k) [])) (second_round_noise q n b (seed j) id (2 * k)) in
    let f' = λ (k : ℕ). ring_sum q n (ring_product q n (ring_difference q n (ephemeral q n (seed j) first) (part j)) (get_or sums (2 * k + 1) [])) (second_round_noise q n b (seed j) id (2 * k + 1)) in
    first_of_two f f' g.rows 0 i l ∙ ap f (omega arith)

second_k1 : (q n b first id : ℕ) (g : Gadget) (sums : List (List ℕ)) (seed part : ℕ → List ℕ) (i : ℕ) → i < g.rows → (j : ℕ) →
    share_row (second_share q n g b first id sums seed part) (2 * i + 1) j
    ≡ ring_sum q n (ring_product q n (ring_difference q n (ephemeral q n (seed j) first) (part j)) (get_or sums (2 * i + 1) [])) (second_round_noise q n b (seed j) id (2 * i + 1))
unfolding honest_second_round second_round_rows
second_k1 q n b first id g sums seed part i l j =
    let f = λ (k : ℕ). ring_sum q n (ring_product q n (part j) (get_or sums (2 * k) [])) (second_round_noise q n b (seed j) id (2 * k)) in
    let f' = λ (k : ℕ). ring_sum q n (ring_product q n (ring_difference q n (ephemeral q n (seed j) first) (part j)) (get_or sums (2 * k + 1) [])) (second_round_noise q n b (seed j) id (2 * k + 1)) in
    second_of_two f f' g.rows 0 i l ∙ ap f' (omega arith)

-- ---- the key

pub relin_keys_are_keys : RelinKeysAreKeys
unfolding relin_key ephemeral
relin_keys_are_keys q n b most first id g public s seed part parties first_sums second_sums h whole size_of first_counted second_counted = record {
  rows = length-map-range_with_len (relin_key_row q n first_sums second_sums) 0 g.rows;
  noise = λ i l.
      let w = weight g i in let a = common_poly q n public first i in
      let own = λ (j : ℕ). ephemeral q n (seed j) first in
      let u = ring_total q n (map own parties) in
      let n0 = λ (j : ℕ). first_round_noise q n b (seed j) first (2 * i) in let n1 = λ (j : ℕ). first_round_noise q n b (seed j) first (2 * i + 1) in
      let n2 = λ (j : ℕ). second_round_noise q n b (seed j) id (2 * i) in let n3 = λ (j : ℕ). second_round_noise q n b (seed j) id (2 * i + 1) in
      let h0 = get_or first_sums (2 * i) [] in let h1 = get_or first_sums (2 * i + 1) [] in
      let k0 = get_or second_sums (2 * i) [] in let k1 = get_or second_sums (2 * i + 1) [] in
      let e0 = ring_total q n (map n0 parties) in let e1 = ring_total q n (map n1 parties) in
      let e2 = ring_total q n (map n2 parties) in let e3 = ring_total q n (map n3 parties) in
      let row : row_at (map (relin_key_row q n first_sums second_sums) (range_with_len 0 g.rows)) i ≡ relin_key_row q n first_sums second_sums i =
      get_or-map-range_with_len (relin_key_row q n first_sums second_sums) 0 g.rows i i (record { b = []; a = [] }) l (omega arith) in
      let is_h0 : h0 ≡ switch_share q n w a u s e0 =
      first_counted.each (2 * i) (omega arith)
      ∙ ap (ring_total q n) (map_same (share_row (first_share q n g b public first seed part) (2 * i)) (λ j. switch_share q n w a (own j) (part j) (n0 j)) parties (first_h0 q n b first g public seed part i l))
      ∙ shares_total q n w a own part n0 parties h
      ∙ ap (λ (x : List ℕ). switch_share q n w a u x e0) whole in
      let is_h1 : h1 ≡ ring_sum q n (ring_product q n s a) e1 =
      first_counted.each (2 * i + 1) (omega arith)
      ∙ ap (ring_total q n) (map_same (share_row (first_share q n g b public first seed part) (2 * i + 1)) (λ j. ring_sum q n (ring_product q n (part j) a) (n1 j)) parties (first_h1 q n b first g public seed part i l))
      ∙ products_total q n a part n1 parties h
      ∙ ap (λ (x : List ℕ). ring_sum q n (ring_product q n x a) e1) whole in
      let is_k0 : k0 ≡ ring_sum q n (ring_product q n s h0) e2 =
      second_counted.each (2 * i) (omega arith)
      ∙ ap (ring_total q n) (map_same (share_row (second_share q n g b first id first_sums seed part) (2 * i)) (λ j. ring_sum q n (ring_product q n (part j) h0) (n2 j)) parties (second_k0 q n b first id g first_sums seed part i l))
      ∙ products_total q n h0 part n2 parties h
      ∙ ap (λ (x : List ℕ). ring_sum q n (ring_product q n x h0) e2) whole in
      let is_k1 : k1 ≡ ring_sum q n (ring_product q n (ring_difference q n u s) h1) e3 =
      second_counted.each (2 * i + 1) (omega arith)
      ∙ ap (ring_total q n) (map_same (share_row (second_share q n g b first id first_sums seed part) (2 * i + 1)) (λ j. ring_sum q n (ring_product q n (ring_difference q n (own j) (part j)) h1) (n3 j)) parties (second_k1 q n b first id g first_sums seed part i l))
      ∙ products_total q n h1 (λ j. ring_difference q n (own j) (part j)) n3 parties h
      ∙ ap (λ (x : List ℕ). ring_sum q n (ring_product q n x h1) e3) (differences_total q n own part parties h ∙ ap (ring_difference q n u) whole) in
      rw row (relin_noise q n w a u s e0 e1 e2 e3 (length parties) (length parties * b) most h
      (total_poly q n (map own parties) h) (subst (IsPoly q n) whole (total_poly q n (map part parties) h))
      (total_poly q n (map n0 parties) h) (total_poly q n (map n1 parties) h) (total_poly q n (map n2 parties) h) (total_poly q n (map n3 parties) h)
      (omega (arith, total_small q n 1 own parties h (λ j. ternary_poly_is q n (seed j) (instance_stream first) 0 h) (λ j. size_ternary_poly q n (seed j) (instance_stream first) 0 h)))
      size_of
      (small first (n + n * (2 * i))) (small first (n + n * (2 * i + 1))) (small id (n * (2 * i))) (small id (n * (2 * i + 1)))
      h0 h1 k0 k1 is_h0 is_h1 is_k0 is_k1);
}
  where
    small : (id place : ℕ) → size q (ring_total q n (map (λ j. small_poly q n b (seed j) (instance_stream id) place) parties)) ≤ length parties * b
    small id place =
        total_small q n b (λ j. small_poly q n b (seed j) (instance_stream id) place) parties h
        (λ j. small_poly_is q n b (seed j) (instance_stream id) place h) (λ j. size_small_poly q n b (seed j) (instance_stream id) place h)
