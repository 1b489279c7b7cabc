-- What the honest shares of several parties open together.
use Rattle.std.specs.Prelude.{◌≡◌, ℕ, ◌+◌, ◌*◌, ◌≤◌, List, length, All}
use Rattle.ring_spec.specs.Ring.{IsPoly, size}
use Rattle.ring_spec.specs.Aggregate.{ring_total}
use Rattle.bfv_spec.specs.Scheme.{limit, Carries}
use Rattle.bfv_spec.specs.Members.{Member, parts, noises, decryption_shares}

-- whichever parties they are, and whatever second part c1 the ciphertext has: where their honest shares
-- add up to this sum, with noises of size at most d, and (c0, c1) carries the plaintext m within v under
-- the sum of their parts, then m is what was opened, if v and d for each party are at most the limit
abbrev pub OpensForAll : ℕ → ℕ → ℕ → ℕ → List ℕ → List ℕ → List ℕ → Type 0
OpensForAll q n t d c0 sum opened =
    (ps : List Member) (c1 m : List ℕ) (v : ℕ) → sum ≡ ring_total q n (decryption_shares q n c1 ps) →
    All (IsPoly q n) (noises ps) → All (λ f. size q f ≤ d) (noises ps) →
    IsPoly t n m → Carries q n t (ring_total q n (parts ps)) v (record { c0 = c0; c1 = c1 }) m →
    v + length ps * d ≤ limit q t → opened ≡ m
