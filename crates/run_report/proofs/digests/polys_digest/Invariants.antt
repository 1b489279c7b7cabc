use Rattle.std.proofs.Common.{take}
use Rattle.std.specs.List.{flat_map}
use Rattle.sha2.specs.Hashers.{Holds256}
use Rattle.run_report.specs.Digests.{poly_bytes}
use Rattle.run_report.proofs.digests.polys_digest.Given as goal

abbrev pub invariant-polys : goal.invariant-polys
invariant-polys l = Holds256 l.hasher (flat_map poly_bytes (take l.place l.polys))
