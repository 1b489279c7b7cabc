-- The share is copied into zeros, and multiplied.
use Rattle.std.proofs.Common.{◌≡◌, arith}
use Rattle.shamir_ring.proofs.Sums.{zeros_and}
use Rattle.shamir_ring.proofs.parts.additive.Goals as goal

pub returns-clause-value : goal.returns-clause-value
returns-clause-value c =
    let p = c.args.ring.now.params in
    let copied : c.add_into.new.acc ≡ c.args.share.now =
    zeros_and p.q p.n c.in_ok-part.part c.args.share.now c.add_into.new.acc (omega arith) c.requires c.in_ok-part.ensures.value c.add_into.ensures.value in
    cc
