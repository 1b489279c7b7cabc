-- Which seed and which stream serve which purpose.
use Rattle.std.specs.Prelude.{ℕ, ◌+◌, ◌*◌, ◌^◌, [], ◌∷◌, ◌++◌, ◌<◌, ◌≤◌, ⊤}
use Rattle.sha2.specs.Sha256.{sha256}
use Rattle.draw_spec.specs.Places.{Seed, Stream, PartyNumber}

-- the seed of party p, and with p = 0 the public seed: the SHA-256 of the master seed's 32 bytes
-- followed by the byte p
abbrev pub party_seed : Seed → PartyNumber → Seed
party_seed master p = sha256 (master ++ p ∷ [])

-- the stream of a party's part of the secret and of its dealing
abbrev pub part_stream : Stream
part_stream = 0

-- the stream of an instance: of its common polynomials with the public seed, of a share's noise
-- with the party's
abbrev pub instance_stream : ℕ → Stream
instance_stream id = 2 ^ 56 + id

-- the stream by which the owner of an input encrypts it, for both numbers below 65536
abbrev pub input_stream : ℕ → ℕ → Stream
input_stream circuit input = 2 * 2 ^ 56 + circuit * 2 ^ 16 + input

-- the stream of the generator of scripts
abbrev pub generator_stream : Stream
generator_stream = 3 * 2 ^ 56

-- the stream by which a party deals its part of the secret again, to the group with a number from 1 to 2^30
abbrev pub redeal_stream : ℕ → Stream
redeal_stream group = 4 * 2 ^ 56 + group

-- ---- all together

-- what a seed's words are drawn for
pub data Purpose : Type 0 where
  Dealing : Purpose
  OfInstance : (id : ℕ) → Purpose
  OfInput : (circuit input : ℕ) → Purpose
  Generating : Purpose
  Redealing : (group : ℕ) → Purpose

-- the stream that serves it
abbrev pub stream_for : Purpose → Stream
stream_for Dealing = part_stream
stream_for (OfInstance id) = instance_stream id
stream_for (OfInput circuit input) = input_stream circuit input
stream_for Generating = generator_stream
stream_for (Redealing group) = redeal_stream group

-- the numbers with which it occurs
abbrev pub Occurs : Purpose → Type 0
Occurs Dealing = ⊤
Occurs (OfInstance id) = id ≤ 2 ^ 30
Occurs (OfInput circuit input) = (circuit < 65536) × (input < 65536)
Occurs Generating = ⊤
Occurs (Redealing group) = group ≤ 2 ^ 30
