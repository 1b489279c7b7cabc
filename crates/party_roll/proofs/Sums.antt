-- The sum of what the parties of a roll deal, one party after the other.
use Rattle.std.proofs.Common.{◌≡◌, ℕ, ◌+◌, ◌<◌, List, [], ◌∷◌, map, length, refl, ap, ap₂, sym, ◌∙◌, arith}
use Rattle.std.specs.List.{range_with_len}
use Rattle.std.proofs.lemmas.List.FromFn.{map-range_with_len_more}
use Rattle.ring_spec.specs.Ring.{total, ring_sum}
use Rattle.ring_spec.specs.Aggregate.{ring_total}
use Rattle.ring_laws.proofs.Residues.{residues_poly}
use Rattle.ring_laws.proofs.Rings.{ring_sum_zero}
use Rattle.ring_laws.proofs.Aggregates.{total_append}
use Rattle.draw_spec.specs.Streams.{party_seed}
use Rattle.share_spec.specs.Dealing.{dealing, power, value_at, dealt, dealt_by, share as share_by}
use Rattle.share_spec.specs.Seeds.{share}
use Rattle.share_laws.proofs.Seeds.{share_in_order}
use Rattle.party_roll.specs.Seeds.{seeds_told, seeds_of}

-- what the parties 1 to k deal to point p
pub share_of : ℕ → ℕ → ℕ → List ℕ → ℕ → ℕ → List ℕ
share_of q n t master k p = share_by q n t (party_seed master) (range_with_len 1 k) p

-- one value is the sum of itself
alone : (q n t p j : ℕ) (seed : ℕ → List ℕ) → 0 < q → ring_total q n (dealt_by q n t seed p j ∷ []) ≡ dealt_by q n t seed p j
unfolding ring_total dealt_by dealt value_at
alone q n t p j seed h =
    let fs = dealing q n t (seed j) in
    ring_sum_zero q n (value_at q n fs p) h (residues_poly q n (λ i. total (length fs) (power fs p i)) h)

-- the first party's dealing
pub sum_start : (q n t : ℕ) (master : List ℕ) (sum : List (List ℕ)) → 0 < q → sum ≡ dealing q n t (party_seed master 1)
    → (p : ℕ) → value_at q n sum p ≡ share_of q n t master 1 p
unfolding share_of share_by dealt_by dealt
sum_start q n t master sum h e p =
    ap (λ (fs : List (List ℕ)). value_at q n fs p) e ∙ sym (alone q n t p 1 (party_seed master) h)

-- that of one more party is added
pub sum_next : (q n t : ℕ) (master : List ℕ) (k : ℕ) (was other now : List (List ℕ)) → 0 < q
    → ((p : ℕ) → value_at q n was p ≡ share_of q n t master k p) → other ≡ dealing q n t (party_seed master (k + 1))
    → ((p : ℕ) → value_at q n now p ≡ ring_sum q n (value_at q n was p) (value_at q n other p))
    → (p : ℕ) → value_at q n now p ≡ share_of q n t master (k + 1) p
unfolding share_of share_by dealt_by dealt
sum_next q n t master k was other now h before e sum p =
    let f = dealt_by q n t (party_seed master) p in
    sum p
    ∙ ap₂ (ring_sum q n) (before p) (ap (λ (fs : List (List ℕ)). value_at q n fs p) e ∙ sym (alone q n t p (k + 1) (party_seed master) h))
    ∙ sym (ap (ring_total q n) (map-range_with_len_more f 1 k (k + 1) (omega arith)) ∙ total_append q n (map f (range_with_len 1 k)) (f (k + 1) ∷ []) h)

map_twice : {A B C : Type 0} (f : B → C) (g : A → B) (xs : List A) → map (λ x. f (g x)) xs ≡ map f (map g xs)
map_twice f g [] = refl
map_twice f g (x ∷ xs) = ap (λ ys. f (g x) ∷ ys) (map_twice f g xs)

-- what all deal to a point is the share there
pub sum_end : (q n t : ℕ) (master : List ℕ) (k parties : ℕ) (sum : List (List ℕ)) → k ≡ parties
    → ((p : ℕ) → value_at q n sum p ≡ share_of q n t master k p)
    → (p : ℕ) → value_at q n sum p ≡ share q n t (seeds_of master parties) p
unfolding share_of share_by dealt_by seeds_of seeds_told
sum_end q n t master k parties sum all h p =
    h p ∙ ap (λ (i : ℕ). share_of q n t master i p) all
    ∙ ap (ring_total q n) (map_twice (dealt q n t p) (party_seed master) (range_with_len 1 parties))
    ∙ sym (share_in_order q n t (seeds_of master parties) p)
