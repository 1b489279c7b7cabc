use Rattle.std.proofs.Common.{◌≡◌, length}
use Rattle.key_tests.proofs.digits.digits_of.Given as goal

abbrev pub invariant-rows : goal.invariant-rows
invariant-rows l = length l.out ≡ 8
