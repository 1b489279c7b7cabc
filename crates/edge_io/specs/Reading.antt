-- What `read_all` took of the source where it stopped, for each cause.
use Rattle.std.specs.Prelude.{◌≡◌, ℕ, ◌+◌, List, Option}
use Rattle.edge_io.specs.Faults.{HasFault}
use Rattle.edge_io.specs.Taking.{TakesFirst, TakesAtMost}
use Rattle.edge_io.specs.declared.reading.ReadStop.{ReadStop}
use Rattle.edge_io.specs.declared.reading.ReadStop.TheVariants.{ReadFault, TooLong, NoMemory}

-- one byte more than `limit` was taken where it was too long, and else at most `limit`
abbrev pub StopsReading : Option (List ℕ) → Option (List ℕ) → ℕ → ReadStop → Type 0
StopsReading old new limit ReadFault = TakesAtMost old new limit
StopsReading old new limit TooLong = TakesFirst old new (limit + 1)
StopsReading old new limit NoMemory = TakesAtMost old new limit

-- a failure was counted between these two counts where the cause is a failed read, and else none was
abbrev pub TellsFaults : ℕ → ℕ → ReadStop → Type 0
TellsFaults before after ReadFault = HasFault before after
TellsFaults before after TooLong = after ≡ before
TellsFaults before after NoMemory = after ≡ before
