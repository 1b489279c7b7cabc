-- The key is the row of the sums and the common polynomial.
use Rattle.std.proofs.Common.{◌∙◌, [], slice_index_or, arith}
use Rattle.bfv_spec.specs.Shares.{common_poly}
use Rattle.keygen_protocols.proofs.Together.{key-of-all}
use Rattle.keygen_protocols.proofs.public_key.pk_key.Goals as goal

pub returns-clause-together : goal.returns-clause-together
returns-clause-together c =
    let p = c.args.ring.now.params in
    key-of-all p.q p.n (common_poly p.q p.n c.args.public c.args.id 0) (slice_index_or c.args.sums.now 0 []) c.in_ok-p0.p0 c.in_ok-p1.p1
    (c.in_ok-p0.ensures.value ∙ c.at.ensures) c.in_ok-p1.ensures.value (omega arith)
