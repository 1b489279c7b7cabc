-- Both parts were hashed.
use Rattle.std.proofs.Common.{[]}
use Rattle.run_report.proofs.Hashed.{cipher-done}
use Rattle.run_report.proofs.digests.cipher_digest.Goals as goal

pub returns : goal.returns
returns c =
    let both = c.hash_poly-2.ensures _ (c.hash_poly.ensures [] c.new-hasher.ensures) in
    rw (← c.cipher.view_is) (cipher-done _ c.finalize.result c.hex_digits.result (c.finalize.ensures _ both) c.hex_digits.ensures)
