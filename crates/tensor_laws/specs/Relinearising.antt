-- What relinearisation adds to the phase of a triple.
use Rattle.std.specs.Prelude.{ℕ, ◌<◌, ◌≤◌, List}
use Rattle.ring_spec.specs.Ring.{IsPoly, ring_difference, ring_product, size}
use Rattle.ring_spec.specs.Pairs.{Cipher, CipherFits}
use Rattle.bfv_spec.specs.Scheme.{phase}
use Rattle.gadget_spec.specs.Digits.{Gadget, Serves}
use Rattle.gadget_spec.specs.Switching.{KeyRow, IsSwitchKey}
use Rattle.gadget_laws.specs.Switching.{switch_noise}
use Rattle.tensor_spec.specs.Tensors.{Triple, IsTriple, tensor, triple_phase, relinearisation}

-- a tensor is of the ring
abbrev pub TensorsFit : Type 0
TensorsFit = (q n t : ℕ) (c d : Cipher) → 0 < q → IsTriple q n (tensor q n t c d)

-- and so is what it is relinearised to
abbrev pub RelinearisationsFit : Type 0
RelinearisationsFit = (q n : ℕ) (g : Gadget) (key : List KeyRow) (x : Triple) → 0 < q → CipherFits q n (relinearisation q n g key x)

-- the phase of a triple that is relinearised by a key for s^2 is the triple's, but for what the switch adds
abbrev pub RelinearisationsAddLittle : Type 0
RelinearisationsAddLittle =
    (q n v : ℕ) (g : Gadget) (s : List ℕ) (key : List KeyRow) (x : Triple)
    → 0 < q → Serves q g → IsPoly q n x.o2 → IsSwitchKey q n g s (ring_product q n s s) v key
    → size q (ring_difference q n (phase q n s (relinearisation q n g key x)) (triple_phase q n s x)) ≤ switch_noise n g v
