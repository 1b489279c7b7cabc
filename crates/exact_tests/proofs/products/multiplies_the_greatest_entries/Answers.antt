-- 8 is a power of two.
use Rattle.std.proofs.Common.{rules}
use Rattle.exact_tests.proofs.products.multiplies_the_greatest_entries.Goals as goal

pub int_mul-requires-clause-degree : goal.int_mul-requires-clause-degree
unfolding lib.Count.ones
int_mul-requires-clause-degree g c = rw c.as_slice.ensures (search rules)
