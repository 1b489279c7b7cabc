-- The seeds that a roll tells, one by one.
use Rattle.std.proofs.Common.{◌≡◌, ℕ, ◌-◌, ◌≤◌, List, length, refl, arith}
use Rattle.std.proofs.lemmas.List.FromFn.{get_or-map-range_with_len, length-map-range_with_len}
use Rattle.draw_spec.specs.Streams.{party_seed}
use Rattle.share_spec.specs.Seeds.{seed_in}
use Rattle.party_roll.specs.Seeds.{seeds_told, seeds_of}

-- as many as there are parties
pub seeds_told_number : (seed : ℕ → List ℕ) (n : ℕ) → length (seeds_told seed n) ≡ n
unfolding seeds_told
seeds_told_number seed n = length-map-range_with_len seed 1 n

-- that of party p is what the roll tells of it
pub seed_told : (seed : ℕ → List ℕ) (n p : ℕ) → 1 ≤ p → p ≤ n → seed_in (seeds_told seed n) p ≡ seed p
unfolding seed_in seeds_told
seed_told seed n p first last = get_or-map-range_with_len seed 1 n (p - 1) p _ (omega arith) (omega arith)

-- those of a master seed
pub seeds_of_roll : (master : List ℕ) (n : ℕ) → seeds_of master n ≡ seeds_told (party_seed master) n
unfolding seeds_of
seeds_of_roll master n = refl

pub seed_of_roll : (master : List ℕ) (n p : ℕ) → 1 ≤ p → p ≤ n → seed_in (seeds_of master n) p ≡ party_seed master p
unfolding seeds_of
seed_of_roll master n p first last = seed_told (party_seed master) n p first last
