-- The scheme over R_q with n coefficients and plaintexts modulo t.
use Rattle.std.specs.Prelude.{ℕ, ◌+◌, ◌-◌, ◌*◌, ◌/◌, ◌%◌, ◌≤◌, map, replicate}
use Rattle.ring_spec.specs.Ring.{Coefficients, ring_sum, ring_difference, ring_negative, ring_multiple, ring_product, size}
use Rattle.ring_spec.specs.Pairs.{Cipher, Key}

-- D, by which a plaintext is scaled, and r, what is left of q
abbrev pub delta : ℕ → ℕ → ℕ
delta q t = q / t

abbrev pub remainder : ℕ → ℕ → ℕ
remainder q t = q % t

-- L, the greatest size of noise under which decryption gives the plaintext
abbrev pub limit : ℕ → ℕ → ℕ
limit q t = (q - 1 - 2 * remainder q t * (t - 1)) / (2 * t)

-- ---- ciphertexts

-- the encryption of m under a public key: (u * p0 + e0 + D * m, u * p1 + e1)
unfoldable pub encryption : ℕ → ℕ → ℕ → Key → Coefficients → Coefficients → Coefficients → Coefficients → Cipher
encryption q n t key m u e0 e1 = record {
  c0 = ring_sum q n (ring_sum q n (ring_product q n u key.p0) e0) (ring_multiple q n (delta q t) m);
  c1 = ring_sum q n (ring_product q n u key.p1) e1;
}

-- the sum of two ciphertexts, part by part
unfoldable pub cipher_sum : ℕ → ℕ → Cipher → Cipher → Cipher
cipher_sum q n c d = record { c0 = ring_sum q n c.c0 d.c0; c1 = ring_sum q n c.c1 d.c1 }

-- the difference of two, the first less the second, and the negative of one, part by part
unfoldable pub cipher_difference : ℕ → ℕ → Cipher → Cipher → Cipher
cipher_difference q n c d = record { c0 = ring_difference q n c.c0 d.c0; c1 = ring_difference q n c.c1 d.c1 }

unfoldable pub cipher_negative : ℕ → ℕ → Cipher → Cipher
cipher_negative q n c = record { c0 = ring_negative q n c.c0; c1 = ring_negative q n c.c1 }

-- a ciphertext times a plaintext: both parts times m
unfoldable pub cipher_multiple : ℕ → ℕ → Cipher → Coefficients → Cipher
cipher_multiple q n c m = record { c0 = ring_product q n c.c0 m; c1 = ring_product q n c.c1 m }

-- a plaintext as a ciphertext without noise: (D * m, 0)
unfoldable pub trivial : ℕ → ℕ → ℕ → Coefficients → Cipher
trivial q n t m = record { c0 = ring_multiple q n (delta q t) m; c1 = replicate n 0 }

-- the phase of a ciphertext under the secret s: c0 + c1 * s
unfoldable pub phase : ℕ → ℕ → Coefficients → Cipher → Coefficients
phase q n s c = ring_sum q n c.c0 (ring_product q n c.c1 s)

-- t*x/q to the nearest whole number, modulo t; there is no tie, since q is odd
abbrev pub rounded : ℕ → ℕ → ℕ → ℕ
rounded q t x = (2 * t * x + q) / (2 * q) % t

-- the decryption of a phase
unfoldable pub decryption : ℕ → ℕ → Coefficients → Coefficients
decryption q t f = map (rounded q t) f

-- a ciphertext carries m within v under s where c0 + c1 * s - D * m has size at most v
pub record Carries (q n t : ℕ) (s : Coefficients) (v : ℕ) (c : Cipher) (m : Coefficients) : Type 0 where
  pub noise : size q (ring_difference q n (phase q n s c) (ring_multiple q n (delta q t) m)) ≤ v

-- ---- the public key

-- the share of the public key of a party with the part s, for the common polynomial a: -a * s + e
unfoldable pub pk_share : ℕ → ℕ → Coefficients → Coefficients → Coefficients → Coefficients
pk_share q n a s e = ring_sum q n (ring_negative q n (ring_product q n a s)) e

-- a public key belongs to s within v where p0 + p1 * s has size at most v
pub record IsPublicKey (q n : ℕ) (s : Coefficients) (v : ℕ) (key : Key) : Type 0 where
  pub noise : size q (ring_sum q n key.p0 (ring_product q n key.p1 s)) ≤ v
