use Rattle.std.proofs.Common.{refl, arith}
use lib.Count.{ones, ones_in}
use Rattle.ntt_bench.proofs.measure_transforms.Goals as goal

pub measure-requires-clause-length : goal.measure-requires-clause-length
unfolding ones ones_in
measure-requires-clause-length c = (omega arith, omega arith, refl)

pub measure-requires-2-clause-length : goal.measure-requires-2-clause-length
unfolding ones ones_in
measure-requires-2-clause-length c = (omega arith, omega arith, refl)

pub measure-requires-3-clause-length : goal.measure-requires-3-clause-length
unfolding ones ones_in
measure-requires-3-clause-length c = (omega arith, omega arith, refl)

pub measure-requires-4-clause-length : goal.measure-requires-4-clause-length
unfolding ones ones_in
measure-requires-4-clause-length c = (omega arith, omega arith, refl)
