-- The digest of polynomials, and of a ciphertext.
use Rattle.std.specs.Prelude.{ℕ, List, [], ◌∷◌}
use Rattle.std.specs.Int.{w64, to_le_bytes}
use Rattle.std.specs.List.{flat_map}
use Rattle.sha2.specs.Sha256.{sha256}
use Rattle.hex.specs.Hex.{encode_lower}
use Rattle.ring_spec.specs.Pairs.{Cipher}

-- the bytes of a polynomial: each coefficient, from the constant on, as 8 bytes with the least first
unfoldable pub poly_bytes : List ℕ → List ℕ
poly_bytes coeffs = flat_map (to_le_bytes w64) coeffs

-- the digest of polynomials: the SHA-256 of their bytes, one polynomial after the other, as 64
-- hexadecimal digits in lower case
unfoldable pub polys_digest : List (List ℕ) → List ℕ
polys_digest polys = encode_lower (sha256 (flat_map poly_bytes polys))

-- the digest of a ciphertext: that of c0 and then c1
unfoldable pub cipher_digest : Cipher → List ℕ
cipher_digest cipher = polys_digest (cipher.c0 ∷ cipher.c1 ∷ [])
