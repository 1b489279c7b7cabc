-- One coefficient more is eight bytes more.
use Rattle.std.proofs.Common.{◌<◌, ◌++◌, length, take, arith}
use Rattle.std.proofs.lemmas.List.{append-nil}
use Rattle.run_report.specs.Digests.{poly_bytes}
use Rattle.run_report.proofs.Hashed.{poly_bytes_more}
use Rattle.run_report.proofs.digests.hash_poly.Goals as goal

pub coeffs-init : goal.coeffs-init
unfolding poly_bytes
coeffs-init c = λ m h. rw append-nil h

pub coeffs-preserved : goal.coeffs-preserved
coeffs-preserved c = λ m h.
    let xs = c.coeffs-coeffs.result.now in
    let i = c.coeffs.coeff-index in
    let here : i < length xs = omega arith in
    let fed = c.update.ensures (m ++ poly_bytes (take i xs)) (c.coeffs.invariant m h) in
    rw (← poly_bytes_more m xs i here) (rw c.to_le_bytes.ensures at fed)
