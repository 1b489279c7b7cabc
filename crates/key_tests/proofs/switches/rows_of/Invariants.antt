use Rattle.std.proofs.Common.{◌≡◌, length, All}
use Rattle.mod_ring.specs.Fits.{Fits}
use Rattle.key_tests.proofs.switches.rows_of.Given as goal

abbrev pub invariant-rows : goal.invariant-rows
invariant-rows l = record { count : length l.rows ≡ l.i; fit : All (Fits l.ring) l.rows }
