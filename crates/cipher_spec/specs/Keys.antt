-- The keys by which the ciphertexts of a circuit are made.
use Rattle.std.specs.Prelude.{ℕ, nat_eq, Bool, List, [], Option, Some, None}
use Rattle.std.specs.List.{find}
use Rattle.ring_spec.specs.Pairs.{Key}
use Rattle.gadget_spec.specs.Digits.{Gadget}
use Rattle.gadget_spec.specs.Switching.{KeyRow}
use Rattle.param_set.specs.Moduli.{digit_rows}
use Rattle.param_set.specs.Numbers.{Numbers}

-- the gadget of a session: digits of b bits, as many rows as a residue modulo q has digits
abbrev pub gadget_of : Numbers → Gadget
gadget_of p = record { bits = p.digit_bits; rows = digit_rows p.q p.digit_bits; balanced = p.balanced }

-- the key by which X becomes X^g
pub record RotationKey : Type 0 where
  pub g : ℕ
  pub rows : List KeyRow

-- the public key under which inputs are encrypted, the rows of the relinearisation key, and a key for each rotation
pub record Keys : Type 0 where
  pub public : Key
  pub relin : List KeyRow
  pub rotations : List RotationKey

-- no key, which stands for one that isn't there, and no keys
abbrev pub no_key : Key
no_key = record { p0 = []; p1 = [] }

abbrev pub no_keys : Keys
no_keys = record { public = no_key; relin = []; rotations = [] }

-- the rows of the key for g among some
abbrev pub is_for : ℕ → RotationKey → Bool
is_for g key = nat_eq key.g g

abbrev pub rows_or_none : Option RotationKey → List KeyRow
rows_or_none None = []
rows_or_none (Some key) = key.rows

unfoldable pub rotation_rows : List RotationKey → ℕ → List KeyRow
rotation_rows keys g = rows_or_none (find (is_for g) keys)
