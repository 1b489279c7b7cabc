-- How many instances a table has places for.
use Rattle.std.specs.Prelude.{ℕ}
use Rattle.instance_table.specs.declared.table.Table.{Table}

-- how many more can be issued before memory is taken: each of its lists has room for so many
unfoldable pub spare : Table → ℕ
spare t = t.places
