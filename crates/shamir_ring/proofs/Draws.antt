-- What a party draws, one polynomial after the other.
use Rattle.std.proofs.Common.{◌≡◌, ℕ, suc, ◌+◌, ◌-◌, ◌*◌, ◌%◌, ◌^◌, ◌<◌, ◌≤◌, List, [], ◌∷◌, ◌++◌, map, refl, sym, ap, ◌∙◌, arith}
use Rattle.std.specs.List.{range_with_len}
use Rattle.std.proofs.lemmas.List.FromFn.{map-range_with_len_more}
use Rattle.std.proofs.lemmas.Nat.{mul-le}
use Rattle.std.proofs.Math.Nat.{mod-eq_of_lt}
use Rattle.bfv_spec.specs.Drawn.{ternary_poly, uniform_poly}
use Rattle.draw_spec.specs.Streams.{part_stream}
use Rattle.share_spec.specs.Dealing.{own_part, dealing_at, dealing}
use Rattle.share_laws.proofs.Values.{dealing_number}

-- the part alone
pub dealing_first : (q n : ℕ) (seed : List ℕ) → dealing q n 1 seed ≡ ternary_poly q n seed 0 0 ∷ []
unfolding dealing dealing_at own_part
dealing_first q n seed = refl

-- one more coefficient, from the place behind those before it
pub dealing_more : (q n d place : ℕ) (seed : List ℕ) → 1 ≤ d → place ≡ n + 4 * n * (d - 1) → dealing q n (d + 1) seed ≡ dealing q n d seed ++ uniform_poly q n seed 0 place ∷ []
unfolding dealing dealing_at
dealing_more q n d place seed h e =
    let k = d - 1 in
    let is : d ≡ suc k = omega arith in
    map-range_with_len_more (dealing_at q n seed) 0 d d (omega arith)
    ∙ ap (λ (x : ℕ). map (dealing_at q n seed) (range_with_len 0 d) ++ dealing_at q n seed x ∷ []) is
    ∙ ap (λ (x : ℕ). map (dealing_at q n seed) (range_with_len 0 d) ++ uniform_poly q n seed part_stream x ∷ []) (sym e)

-- what a turn of drawing adds
pub drawn_more : (q n d place stream : ℕ) (seed s : List ℕ) (was now : List (List ℕ)) (u : List ℕ) → 1 ≤ d → was ≡ dealing q n d seed → s ≡ seed → stream ≡ 0 →
    place ≡ n + 4 * n * (d - 1) → u ≡ uniform_poly q n s stream place → now ≡ was ++ u ∷ [] → now ≡ dealing q n (d + 1) seed
drawn_more q n d place stream seed s was now u h e es er ep eu en =
    en ∙ ap (λ (xs : List (List ℕ)). xs ++ u ∷ []) e
    ∙ ap (λ (x : List ℕ). dealing q n d seed ++ x ∷ []) (eu ∙ ap (λ (x : List ℕ). uniform_poly q n x stream place) es ∙ ap (λ (x : ℕ). uniform_poly q n seed x place) er)
    ∙ sym (dealing_more q n d place seed h ep)

-- the place behind one more
pub place_more : (n d place : ℕ) → n ≤ 4096 → 1 ≤ d → d ≤ 32 → place ≡ n + 4 * n * (d - 1) → (place + 4 * n) % 2 ^ 68 ≡ n + 4 * n * (d + 1 - 1)
place_more n d place h l m e =
    let k = d - 1 in
    let next : d + 1 - 1 ≡ k + 1 = omega arith in
    let more : n + 4 * n * (d + 1 - 1) ≡ n + 4 * n * k + 4 * n = ap (λ (x : ℕ). n + 4 * n * x) next ∙ omega arith in
    let few : 4 * n * k ≤ 4 * 4096 * 31 = mul-le (4 * n) k (4 * 4096) 31 (omega arith) (omega arith) in
    let small : place + 4 * n < 2 ^ 68 = omega arith in
    mod-eq_of_lt small ∙ omega arith

-- for the tactics
pub ruleset one_by_one = (dealing_first, dealing_more, place_more, dealing_number)
