-- 4096 is a power of two.
use Rattle.std.proofs.Common.{rules, ◌≡◌, length}
use Rattle.exact_tests.proofs.products.multiplies_many_of_the_greatest.Goals as goal

pub int_mul-requires-clause-degree : goal.int_mul-requires-clause-degree
unfolding lib.Count.ones
int_mul-requires-clause-degree g c =
    let n : length c.as_slice.result.now ≡ 4096 = search rules in
    rw n (search rules)
