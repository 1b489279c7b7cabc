-- How failures of outside calls are counted. A count is a u64, and stands still at its last value.
use Rattle.std.specs.Prelude.{ℕ, ◌+◌, ◌-◌, ◌^◌, ◌<◌, min}

-- the last value of a count
abbrev pub last_count : ℕ
last_count = 2 ^ 64 - 1

-- the count after one more
abbrev pub raised : ℕ → ℕ
raised count = min (count + 1) last_count

-- a failure was counted between these two counts: the count rose, unless it stood at its last value
abbrev pub HasFault : ℕ → ℕ → Type 0
HasFault before after = before < last_count → before < after
