-- What the honest shares of several parties make together.
use Rattle.std.specs.Prelude.{◌≡◌, ℕ, ◌*◌, ◌≤◌, List, length, All}
use Rattle.ring_spec.specs.Ring.{IsPoly, size}
use Rattle.ring_spec.specs.Pairs.{Key}
use Rattle.ring_spec.specs.Aggregate.{ring_total}
use Rattle.bfv_spec.specs.Scheme.{IsPublicKey}
use Rattle.bfv_spec.specs.Members.{Member, parts, noises, key_shares}

-- whichever parties they are: where their honest shares for the common polynomial a add up to this sum,
-- with noises of size at most b, the key is a public key of the sum of their parts, within b for each
abbrev pub IsKeyOfAll : ℕ → ℕ → List ℕ → List ℕ → Key → Type 0
IsKeyOfAll q n a sum key =
    (ps : List Member) (b : ℕ) → sum ≡ ring_total q n (key_shares q n a ps) →
    All (IsPoly q n) (noises ps) → All (λ e. size q e ≤ b) (noises ps) →
    IsPublicKey q n (ring_total q n (parts ps)) (length ps * b) key
