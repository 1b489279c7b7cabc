use Rattle.std.proofs.Common.{ℕ, List, ◌++◌, take}
use Rattle.sha2.specs.Hashers.{Holds256}
use Rattle.run_report.specs.Digests.{poly_bytes}
use Rattle.run_report.proofs.digests.hash_poly.Given as goal

abbrev pub invariant-coeffs : goal.invariant-coeffs
invariant-coeffs l =
    (m : List ℕ) → Holds256 l.initial.hasher m → Holds256 l.hasher (m ++ poly_bytes (take l.coeff-index l.coeffs))
