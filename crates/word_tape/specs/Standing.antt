-- Where a tape stands.
use Rattle.std.specs.Prelude.{ℕ, ◌+◌, ◌%◌, ◌^◌, List}

-- the seed's 32 bytes, the number of the stream, and the place of the next word, below 2^68
pub record Standing : Type 0 where
  pub seed : List ℕ
  pub stream : ℕ
  pub next : ℕ

-- the same tape m words further on; a stream repeats after 2^68 words
abbrev pub moved : Standing → ℕ → Standing
moved s m = record s { next = (s.next + m) % 2 ^ 68 }
