use Rattle.std.proofs.Common.{◌≡◌, ◌*◌, All}
use Rattle.ring_spec.specs.Ring.{IsPoly}
use Rattle.ring_draws.proofs.Steps.{Stands}
use Rattle.keygen_protocols.proofs.Rows.{start, so_far}
use Rattle.keygen_protocols.proofs.commons.common.Given as goal

abbrev pub invariant-loop-row : goal.invariant-loop-row
invariant-loop-row l = record {
  rows : l.polys ≡ so_far l.ring.params.q l.ring.params.n l.fn.public l.id l.row;
  fit : All (IsPoly l.ring.params.q l.ring.params.n) l.polys;
  tape : Stands (start l.fn.public l.id) l.tape (4 * l.ring.params.n * l.row);
}
