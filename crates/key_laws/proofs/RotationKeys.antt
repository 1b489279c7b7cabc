-- The rotation key from the sums of honest shares.
use Rattle.std.proofs.Common.{◌≡◌, ℕ, ◌*◌, ◌<◌, List, [], map, get_or, ap, ◌∙◌, arith}
use Rattle.std.specs.List.{range_with_len}
use Rattle.std.proofs.lemmas.List.FromFn.{length-map-range_with_len, get_or-map-range_with_len}
use Rattle.ring_spec.specs.Ring.{ring_turned}
use Rattle.ring_spec.specs.Aggregate.{ring_total}
use Rattle.draw_spec.specs.Streams.{instance_stream}
use Rattle.bfv_spec.specs.Shares.{common_poly}
use Rattle.gadget_spec.specs.Digits.{Gadget, weight}
use Rattle.gadget_spec.specs.Switching.{row_at}
use Rattle.key_spec.specs.Rounds.{switch_share, share_row}
use Rattle.key_spec.specs.Rotations.{rotation_noise, rotation_row, honest_rotation, rotation_key_row, rotation_key}
use Rattle.key_laws.specs.Noise.{rotation_share, RotationKeysAreKeys}
use Rattle.ring_laws.proofs.Aggregates.{total_poly}
use Rattle.bfv_laws.proofs.Draws.{small_poly_is, size_small_poly}
use Rattle.key_laws.proofs.Totals.{map_same, total_small, shares_total, turned_total}
use Rattle.key_laws.proofs.Noises.{share_noise}

-- row i of an honest share
row_is : (q n b e id : ℕ) (g : Gadget) (public : List ℕ) (seed part : ℕ → List ℕ) (i : ℕ) → i < g.rows → (j : ℕ) →
    share_row (rotation_share q n g b e public id seed part) i j
    ≡ switch_share q n (weight g i) (common_poly q n public id i) (part j) (ring_turned q n e (part j)) (rotation_noise q n b (seed j) id i)
unfolding honest_rotation rotation_row
row_is q n b e id g public seed part i l j =
    get_or-map-range_with_len (rotation_row q n g b e public (seed j) id (part j)) 0 g.rows i i [] l (omega arith)

pub rotation_keys_are_keys : RotationKeysAreKeys
unfolding rotation_key
rotation_keys_are_keys q n b e id g public s seed part parties sums h whole counted = record {
  rows = length-map-range_with_len (rotation_key_row q n public id sums) 0 g.rows;
  noise = λ i l.
      let w = weight g i in let a = common_poly q n public id i in
      let noise = λ (j : ℕ). rotation_noise q n b (seed j) id i in
      let image = λ (j : ℕ). ring_turned q n e (part j) in
      let all = ring_total q n (map noise parties) in
      let row : row_at (map (rotation_key_row q n public id sums) (range_with_len 0 g.rows)) i ≡ rotation_key_row q n public id sums i =
      get_or-map-range_with_len (rotation_key_row q n public id sums) 0 g.rows i i (record { b = []; a = [] }) l (omega arith) in
      let sum : get_or sums i [] ≡ switch_share q n w a s (ring_turned q n e s) all =
      counted.each i l
      ∙ ap (ring_total q n) (map_same (share_row (rotation_share q n g b e public id seed part) i) (λ j. switch_share q n w a (part j) (image j) (noise j)) parties (row_is q n b e id g public seed part i l))
      ∙ shares_total q n w a part image noise parties h
      ∙ ap (λ (x : List ℕ). switch_share q n w a x (ring_total q n (map image parties)) all) whole
      ∙ ap (λ (x : List ℕ). switch_share q n w a s x all) (turned_total q n e part parties h ∙ ap (ring_turned q n e) whole) in
      rw (row, sum, share_noise q n w a s (ring_turned q n e s) all h (total_poly q n (map noise parties) h))
      (total_small q n b noise parties h (λ j. small_poly_is q n b (seed j) (instance_stream id) (n * i) h) (λ j. size_small_poly q n b (seed j) (instance_stream id) (n * i) h));
}
