-- All polynomials were hashed.
use Rattle.std.proofs.Common.{arith}
use Rattle.run_report.proofs.Hashed.{polys-done}
use Rattle.run_report.proofs.digests.polys_digest.Goals as goal

pub returns : goal.returns
returns c =
    polys-done c.args.polys.now c.polys.place c.finalize.result c.hex_digits.result (omega arith) (c.finalize.ensures _ c.polys.invariant) c.hex_digits.ensures
