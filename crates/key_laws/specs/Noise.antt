-- What noise the keys have that are made of the sums of honest shares, where the parties' parts sum to the secret.
use Rattle.std.specs.Prelude.{◌≡◌, ℕ, ◌+◌, ◌*◌, ◌<◌, ◌≤◌, List, map, length}
use Rattle.ring_spec.specs.Ring.{ring_product, ring_turned, size}
use Rattle.ring_spec.specs.Aggregate.{ring_total}
use Rattle.gadget_spec.specs.Digits.{Gadget}
use Rattle.gadget_spec.specs.Switching.{IsSwitchKey}
use Rattle.key_spec.specs.Rounds.{AreSums}
use Rattle.key_spec.specs.Rotations.{honest_rotation, rotation_key}
use Rattle.key_spec.specs.Relinearisation.{honest_first_round, honest_second_round, relin_key}

-- ---- the honest shares of party j, by the seeds and the parts of all

abbrev pub rotation_share : ℕ → ℕ → Gadget → ℕ → ℕ → List ℕ → ℕ → (ℕ → List ℕ) → (ℕ → List ℕ) → ℕ → List (List ℕ)
rotation_share q n g b e public id seed part j = honest_rotation q n g b e public (seed j) id (part j)

abbrev pub first_share : ℕ → ℕ → Gadget → ℕ → List ℕ → ℕ → (ℕ → List ℕ) → (ℕ → List ℕ) → ℕ → List (List ℕ)
first_share q n g b public id seed part j = honest_first_round q n g b public (seed j) id (part j)

abbrev pub second_share : ℕ → ℕ → Gadget → ℕ → ℕ → ℕ → List (List ℕ) → (ℕ → List ℕ) → (ℕ → List ℕ) → ℕ → List (List ℕ)
second_share q n g b first id sums seed part j = honest_second_round q n g b (seed j) first id sums (part j)

-- ---- keys

-- the sums of the shares of T parties are a key for the secret with X^e for X within T * B
abbrev pub RotationKeysAreKeys : Type 0
RotationKeysAreKeys =
    (q n b e id : ℕ) (g : Gadget) (public s : List ℕ) (seed part : ℕ → List ℕ) (parties : List ℕ) (sums : List (List ℕ))
    → 0 < q → ring_total q n (map part parties) ≡ s
    → AreSums q n g.rows (rotation_share q n g b e public id seed part) parties sums
    → IsSwitchKey q n g s (ring_turned q n e s) (length parties * b) (rotation_key q n g public id sums)

-- the sums of both rounds are a key for the square of the secret within T * B * (n * (N + T) + 2), where the secret
-- has size at most N
abbrev pub RelinKeysAreKeys : Type 0
RelinKeysAreKeys =
    (q n b size_of_secret first id : ℕ) (g : Gadget) (public s : List ℕ) (seed part : ℕ → List ℕ) (parties : List ℕ)
    (first_sums second_sums : List (List ℕ))
    → 0 < q → ring_total q n (map part parties) ≡ s → size q s ≤ size_of_secret
    → AreSums q n (2 * g.rows) (first_share q n g b public first seed part) parties first_sums
    → AreSums q n (2 * g.rows) (second_share q n g b first id first_sums seed part) parties second_sums
    → IsSwitchKey q n g s (ring_product q n s s) (length parties * b * (n * (size_of_secret + length parties) + 2)) (relin_key q n g first_sums second_sums)
