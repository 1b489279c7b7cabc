-- The common polynomials of the first rows, drawn one behind the other.
use Rattle.std.proofs.Common.{◌≡◌, ℕ, ◌+◌, ◌*◌, ◌%◌, ◌^◌, List, [], ◌∷◌, ◌++◌, map, refl, ap, sym, ◌∙◌, arith}
use Rattle.std.proofs.lemmas.List.FromFn.{map-range_with_len_more}
use Rattle.std.specs.List.{range_with_len}
use Rattle.draw_spec.specs.Draws.{uniform, uniform_from}
use Rattle.draw_spec.specs.Streams.{instance_stream}
use Rattle.bfv_spec.specs.Drawn.{uniform_poly}
use Rattle.bfv_spec.specs.Shares.{common_poly, common_polys}
use Rattle.word_tape.specs.Standing.{Standing}
use Rattle.ring_draws.proofs.Steps.{Stands, Stands-start, uniform-wraps}

-- where the tape of an instance's common polynomials begins
abbrev pub start : List ℕ → ℕ → Standing
start public id = record { seed = public; stream = instance_stream id; next = 0 }

pub starts : (public : List ℕ) (id stream i : ℕ) (tape : Standing) → tape ≡ record { seed = public; stream = stream; next = 0 } → stream ≡ instance_stream id → i ≡ 0 →
    Stands (start public id) tape i
starts public id stream i tape e f z = rw (e, f, z) (Stands-start (start public id))

-- functions that agree everywhere give the same list
same-map : (f g : ℕ → ℕ) (xs : List ℕ) → ((x : ℕ) → f x ≡ g x) → map f xs ≡ map g xs
same-map f g [] e = refl
same-map f g (x ∷ xs) e = ap (λ y. y ∷ map f xs) (e x) ∙ ap (λ ys. g x ∷ ys) (same-map f g xs e)

-- a tape that stands in row i draws that row
pub row-here : (q n : ℕ) (public : List ℕ) (id i : ℕ) (now : Standing) → Stands (start public id) now (4 * n * i) →
    uniform_poly q n now.seed now.stream now.next ≡ common_poly q n public id i
unfolding uniform_poly
row-here q n public id i now h =
    let place : now.next % 2 ^ 68 ≡ (0 + 4 * n * i) % 2 ^ 68 = h.place in
    rw (h.seed, h.stream) (same-map (uniform_from public (instance_stream id) q now.next) (uniform_from public (instance_stream id) q (4 * n * i)) (range_with_len 0 n) (λ k.
    let same : (now.next + 4 * k) % 2 ^ 68 ≡ (4 * n * i + 4 * k) % 2 ^ 68 = omega (arith, place) in
    sym (uniform-wraps public (instance_stream id) q (now.next + 4 * k)) ∙ ap (uniform public (instance_stream id) q) same ∙ uniform-wraps public (instance_stream id) q (4 * n * i + 4 * k)))

-- ---- the rows so far

pub so_far : ℕ → ℕ → List ℕ → ℕ → ℕ → List (List ℕ)
so_far q n public id k = map (common_poly q n public id) (range_with_len 0 k)

pub so_far-start : (q n : ℕ) (public : List ℕ) (id : ℕ) → [] ≡ so_far q n public id 0
unfolding so_far
so_far-start q n public id = refl

pub so_far-next : (q n : ℕ) (public : List ℕ) (id k : ℕ) → so_far q n public id k ++ common_poly q n public id k ∷ [] ≡ so_far q n public id (k + 1)
unfolding so_far
so_far-next q n public id k = sym (map-range_with_len_more (common_poly q n public id) 0 k k (omega arith))

pub so_far-end : (q n : ℕ) (public : List ℕ) (id k rows : ℕ) → k ≡ rows → so_far q n public id k ≡ common_polys q n public id rows
unfolding so_far common_polys
so_far-end q n public id k rows e = ap (so_far q n public id) e
