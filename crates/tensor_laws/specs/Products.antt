-- What a product of two ciphertexts carries, and within which noise, where the secret has size at most w.
use Rattle.std.specs.Prelude.{ℕ, ◌+◌, ◌-◌, ◌*◌, ◌/◌, ◌<◌, ◌≤◌, List}
use Rattle.ring_spec.specs.Ring.{IsPoly, ring_product, size}
use Rattle.ring_spec.specs.Pairs.{Cipher, CipherFits}
use Rattle.bfv_spec.specs.Scheme.{remainder, Carries}
use Rattle.gadget_spec.specs.Digits.{Gadget, Serves}
use Rattle.gadget_spec.specs.Switching.{KeyRow, IsSwitchKey}
use Rattle.gadget_laws.specs.Switching.{switch_noise}
use Rattle.tensor_spec.specs.Tensors.{TripleCarries, tensor, relinearisation}

-- K, which bounds the multiple of q by which a phase over the whole numbers is off: n * w / 2 + 1
abbrev pub wraps : ℕ → ℕ → ℕ
wraps n w = n * w / 2 + 1

-- the noises v1 and v2 of both factors, times the other factor: n * (K + 1) * (t * (v1 + v2) + 2 * r * (t - 1))
abbrev pub crossed : ℕ → ℕ → ℕ → ℕ → ℕ → ℕ → ℕ
crossed q n t w v1 v2 = n * (wraps n w + 1) * (t * (v1 + v2) + 2 * remainder q t * (t - 1))

-- what rounding adds: (n * w + n^2 * w^2) / 2, and 1
abbrev pub rounding : ℕ → ℕ → ℕ
rounding n w = (n * w + n * w * (n * w)) / 2 + 1

-- the noise of a tensor
abbrev pub tensor_noise : ℕ → ℕ → ℕ → ℕ → ℕ → ℕ → ℕ
tensor_noise q n t w v1 v2 = crossed q n t w v1 v2 + rounding n w

-- a ciphertext of the ring carries a plaintext within a noise that is small enough to be decrypted
pub record IsFactor (q n t : ℕ) (s : List ℕ) (v : ℕ) (c : Cipher) (m : List ℕ) : Type 0 where
  pub fits : CipherFits q n c
  pub plain : IsPoly t n m
  pub carries : Carries q n t s v c m
  pub small : 2 * t * v + 2 * remainder q t * (t - 1) < q

-- the tensor of two such carries the product of the plaintexts
abbrev pub TensorsCarry : Type 0
TensorsCarry =
    (q n t w v1 v2 : ℕ) (s : List ℕ) (c d : Cipher) (m l : List ℕ)
    → 0 < q → 0 < t → IsPoly q n s → size q s ≤ w → IsFactor q n t s v1 c m → IsFactor q n t s v2 d l
    → TripleCarries q n t s (tensor_noise q n t w v1 v2) (tensor q n t c d) (ring_product t n m l)

-- and so does what it is relinearised to, with what the switch adds
abbrev pub ProductsCarry : Type 0
ProductsCarry =
    (q n t w v1 v2 e : ℕ) (g : Gadget) (s : List ℕ) (key : List KeyRow) (c d : Cipher) (m l : List ℕ)
    → 0 < q → 0 < t → IsPoly q n s → size q s ≤ w → IsFactor q n t s v1 c m → IsFactor q n t s v2 d l
    → Serves q g → IsSwitchKey q n g s (ring_product q n s s) e key
    → Carries q n t s (tensor_noise q n t w v1 v2 + switch_noise n g e) (relinearisation q n g key (tensor q n t c d)) (ring_product t n m l)
