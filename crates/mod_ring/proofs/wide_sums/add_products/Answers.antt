-- The loop has raised each sum.
use Rattle.std.proofs.Common.{◌+◌, sym, subst, arith}
use Rattle.mod_ring.specs.WideSums.{raised_sums, AreWithin}
use Rattle.mod_ring.proofs.Filled.{Filled-end}
use Rattle.mod_ring.proofs.WideSums.{raised_within}
use Rattle.mod_ring.proofs.wide_sums.add_products.Goals as goal

pub sum_with-requires-clause-sum : goal.sum_with-requires-clause-sum
sum_with-requires-clause-sum c =
    let i = c.loop-i.i in
    let was = c.loop-i.invariant.rest i (omega arith) in
    let within = c.requires.sums i 0 c.loop-i-test.true in
    omega (arith, was, within, c.requires.room)

value : goal.returns-clause-value
unfolding raised_sums
value c =
    Filled-end _ c.args.sums.now c.loop-i.sums _ c.loop-i.i c.loop-i.auto.sums (omega arith) c.loop-i.invariant

pub returns-clause-value : goal.returns-clause-value
returns-clause-value c = value c

pub returns-clause-within : goal.returns-clause-within
returns-clause-within c =
    subst (AreWithin (c.args._terms + 1)) (sym (value c))
    (raised_within c.args._terms c.args.sums.now c.args.f.now c.args.g.now c.requires.sums c.requires.left.0 c.requires.right.0 c.requires.left.1 c.requires.right.1)
