-- The same laws where the dealers are the parties of a list of seeds.
use Rattle.std.proofs.Common.{◌≡◌, ℕ, ◌+◌, ◌-◌, ◌≤◌, ◌<◌, List, [], ◌∷◌, map, length, refl, ap, ◌∙◌, arith}
use Rattle.std.specs.Prelude.{IsTrue, slice_index_or}
use Rattle.std.specs.List.{range_with_len}
use Rattle.std.proofs.lemmas.List.{ext_get_or}
use Rattle.std.proofs.lemmas.List.FromFn.{length-range_with_len, length-map-range_with_len, get_or-map-range_with_len}
use Rattle.param_set.specs.Moduli.{indivisible}
use Rattle.ring_spec.specs.Ring.{IsPoly, size, ring_multiple}
use Rattle.ring_spec.specs.Aggregate.{ring_total}
use Rattle.share_spec.specs.Sets.{members}
use Rattle.share_spec.specs.Lagrange.{lagrange}
use Rattle.share_spec.specs.Dealing.{own_part, dealt, dealt_by, own_by}
use Rattle.share_spec.specs.Dealing.{share as share_by, secret as secret_by, part as part_by}
use Rattle.share_spec.specs.Seeds.{seed_in, dealers_in, share, secret, part, parts}
use Rattle.share_laws.proofs.Shares.{parts_sum as parts_sum_by, secret_small as secret_small_by, secret_is as secret_is_by}

-- ---- sums over the list

-- the seeds of the dealers, in order, are the list
pub seeds_in_order : (seeds : List (List ℕ)) → map (seed_in seeds) (dealers_in seeds) ≡ seeds
unfolding seed_in dealers_in
seeds_in_order seeds =
    let all = map (λ p. slice_index_or seeds (p - 1) []) (range_with_len 1 (length seeds)) in
    let many : length all ≡ length seeds = length-map-range_with_len (λ p. slice_index_or seeds (p - 1) []) 1 (length seeds) in
    ext_get_or [] all seeds many (λ k lt.
    get_or-map-range_with_len (λ p. slice_index_or seeds (p - 1) []) 1 (length seeds) k (k + 1) [] (omega (arith, many)) (omega arith)
    ∙ ap (λ (i : ℕ). slice_index_or seeds i []) (let e : k + 1 - 1 ≡ k = omega arith in e))

map_twice : {A B C : Type 0} (f : B → C) (g : A → B) (xs : List A) → map (λ x. f (g x)) xs ≡ map f (map g xs)
map_twice f g [] = refl
map_twice f g (x ∷ xs) = ap (λ ys. f (g x) ∷ ys) (map_twice f g xs)

-- a share is the sum of what is dealt by each seed of the list, and the secret that of the parts
pub share_in_order : (q n t : ℕ) (seeds : List (List ℕ)) (p : ℕ) → share q n t seeds p ≡ ring_total q n (map (dealt q n t p) seeds)
unfolding share share_by dealt_by
share_in_order q n t seeds p =
    ap (ring_total q n) (map_twice (dealt q n t p) (seed_in seeds) (dealers_in seeds) ∙ ap (map (dealt q n t p)) (seeds_in_order seeds))

pub secret_in_order : (q n : ℕ) (seeds : List (List ℕ)) → secret q n seeds ≡ ring_total q n (map (own_part q n) seeds)
unfolding secret secret_by own_by
secret_in_order q n seeds =
    ap (ring_total q n) (map_twice (own_part q n) (seed_in seeds) (dealers_in seeds) ∙ ap (map (own_part q n)) (seeds_in_order seeds))

-- a part is the share times the Lagrange coefficient
pub part_of_share : (q n t : ℕ) (seeds : List (List ℕ)) (set j : ℕ) → part q n t seeds set j ≡ ring_multiple q n (lagrange q set j) (share q n t seeds j)
unfolding part part_by share
part_of_share q n t seeds set j = refl

-- ---- the laws

-- the parts of as many members as the threshold sum to the secret
pub parts_sum : (q n t : ℕ) (seeds : List (List ℕ)) (set : ℕ) → 0 < q → IsTrue (indivisible q 31) → 1 ≤ t → t ≤ length (members set) →
    ring_total q n (parts q n t seeds set) ≡ secret q n seeds
unfolding parts secret
parts_sum q n t seeds set h small low few =
    parts_sum_by q n t (seed_in seeds) (dealers_in seeds) set h small low few

-- the secret is at most as large as there are parties
pub secret_small : (q n : ℕ) (seeds : List (List ℕ)) → 0 < q → size q (secret q n seeds) ≤ length seeds
unfolding secret dealers_in
secret_small q n seeds h =
    omega (arith, secret_small_by q n (seed_in seeds) (dealers_in seeds) h, length-range_with_len 1 (length seeds))

pub secret_is : (q n : ℕ) (seeds : List (List ℕ)) → 0 < q → IsPoly q n (secret q n seeds)
unfolding secret
secret_is q n seeds h = secret_is_by q n (seed_in seeds) (dealers_in seeds) h
