-- What contracts see of a source and a sink over memory.
use Rattle.std.specs.Prelude.{ℕ, List, ◌<◌, ◌≤◌, length}

-- a source: the bytes that are left, the numbers of the reads that fail (the first has number 1), how many reads were made, and how many failed
pub record SourceState : Type 0 where
  pub bytes : List ℕ
  pub failing : List ℕ
  pub reads : ℕ
  pub faults : ℕ

-- a sink: the bytes that were taken, how many it takes in all, the numbers of the writes that fail, how many writes were made, and how many failed
pub record SinkState : Type 0 where
  pub bytes : List ℕ
  pub room : ℕ
  pub failing : List ℕ
  pub writes : ℕ
  pub faults : ℕ

-- the sink has taken all that it takes, and the piece has bytes
abbrev pub IsFull : SinkState → List ℕ → Type 0
IsFull sink piece = (sink.room ≤ length sink.bytes) × (0 < length piece)
