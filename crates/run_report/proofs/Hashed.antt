-- The bytes of polynomials, one coefficient and one polynomial at a time.
use Rattle.std.proofs.Common.{◌≡◌, ◌∙◌, ap, sym, ℕ, ◌+◌, ◌<◌, ◌≤◌, List, [], ◌++◌, length, get_or, take}
use Rattle.std.specs.Int.{w64, to_le_bytes}
use Rattle.std.specs.List.{flat_map}
use Rattle.sha2.specs.Sha256.{sha256}
use Rattle.hex.specs.Hex.{encode_lower}
use Rattle.ring_spec.specs.Pairs.{Cipher}
use Rattle.std.proofs.lemmas.List.{take_more, take_all, append-nil, flat_map_more}
use Rattle.run_report.specs.Digests.{poly_bytes, polys_digest, cipher_digest}

pub poly_bytes_more : (m xs : List ℕ) (i : ℕ) → i < length xs → (m ++ poly_bytes (take i xs)) ++ to_le_bytes w64 (get_or xs i 0) ≡ m ++ poly_bytes (take (i + 1) xs)
unfolding poly_bytes
poly_bytes_more m xs i here =
    flat_map_more (to_le_bytes w64) m (take i xs) (get_or xs i 0) ∙ ap (λ t. m ++ flat_map (to_le_bytes w64) t) (sym (take_more xs i 0 here))

pub polys_more : (fs : List (List ℕ)) (i : ℕ) → i < length fs → flat_map poly_bytes (take i fs) ++ poly_bytes (get_or fs i []) ≡ flat_map poly_bytes (take (i + 1) fs)
polys_more fs i here =
    flat_map_more poly_bytes [] (take i fs) (get_or fs i []) ∙ ap (flat_map poly_bytes) (sym (take_more fs i [] here))

-- the digest of a list of polynomials, of which all were hashed
pub polys-done : (fs : List (List ℕ)) (n : ℕ) (hash digits : List ℕ) → length fs ≤ n → hash ≡ sha256 (flat_map poly_bytes (take n fs)) → digits ≡ encode_lower hash → digits ≡ polys_digest fs
unfolding polys_digest
polys-done fs n hash digits all hashed printed =
    printed ∙ ap encode_lower (hashed ∙ ap (λ gs. sha256 (flat_map poly_bytes gs)) (take_all n fs all))

-- the digest of a ciphertext, of which both parts were hashed
pub cipher-done : (cipher : Cipher) (hash digits : List ℕ) → hash ≡ sha256 (poly_bytes cipher.c0 ++ poly_bytes cipher.c1) → digits ≡ encode_lower hash → digits ≡ cipher_digest cipher
unfolding cipher_digest polys_digest
cipher-done cipher hash digits hashed printed =
    printed ∙ ap encode_lower (hashed ∙ ap (λ t. sha256 (poly_bytes cipher.c0 ++ t)) (sym (append-nil (poly_bytes cipher.c1))))
