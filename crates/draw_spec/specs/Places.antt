-- What the numbers and lists are by which draws are told.
use Rattle.std.specs.Prelude.{ℕ, List}

-- a seed: its 32 bytes
abbrev pub Seed : Type 0
Seed = List ℕ

-- the number of a stream of a seed
abbrev pub Stream : Type 0
Stream = ℕ

-- the place of a word in a stream, from 0
abbrev pub WordPlace : Type 0
WordPlace = ℕ

-- the number of a party, from 1
abbrev pub PartyNumber : Type 0
PartyNumber = ℕ
