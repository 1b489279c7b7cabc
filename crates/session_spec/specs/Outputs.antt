-- The ciphertexts of a session in a state, and the sums of its instances.
use Rattle.std.specs.Prelude.{ℕ, cond, List, [], ◌∷◌, map, Option, Some, None}
use Rattle.std.specs.List.{range_with_len, find}
use Rattle.ring_spec.specs.Ring.{Coefficients}
use Rattle.ring_spec.specs.Pairs.{Cipher, Key}
use Rattle.draw_spec.specs.Places.{Seed}
use Rattle.draw_spec.specs.Streams.{input_stream}
use Rattle.bfv_spec.specs.Drawn.{drawn_encryption}
use Rattle.gadget_spec.specs.Switching.{KeyRow}
use Rattle.share_spec.specs.Seeds.{seed_in}
use Rattle.cipher_spec.specs.Keys.{Keys, RotationKey, no_key}
use Rattle.cipher_spec.specs.Ciphers.{output_cipher}
use Rattle.proto_names.specs.Instances.{is_done}
use Rattle.proto_names.specs.Roles.{Role, role_of}
use Rattle.proto_names.specs.declared.signature.Signature.{Signature}
use Rattle.proto_names.specs.declared.signature.Signature.TheVariants.{Pk, Rlk1, Rlk2, Rot, Dec}
use Rattle.proto_names.specs.declared.instance.Instance.{Instance}
use Rattle.session_rules.specs.States.{plan}
use Rattle.session_spec.specs.Settings.{Setting, rules, nodes_at, value_at, owner_at, input_count}
use Rattle.session_spec.specs.Shares.{share_rows, sum_rows, key_of, first_sums, relin_rows, rotation_rows}

-- ---- the keys

-- the complete instance of a signature, if there is one; of the public key
unfoldable pub done_instance : Signature → List Instance → Option Instance
done_instance σ is = find (is_done σ) is

abbrev pub key_instance : List Instance → Option Instance
key_instance is = done_instance Pk is

abbrev pub key_from : Setting → List Seed → Option Instance → Key
key_from w seeds None = no_key
key_from w seeds (Some i) = key_of w seeds (role_of i)

-- the public key
unfoldable pub key_in : Setting → List Seed → List Instance → Key
key_in w seeds is = key_from w seeds (key_instance is)

-- the relinearisation key
abbrev pub relin_from : Setting → List Seed → Option Instance → List KeyRow
relin_from w seeds None = []
relin_from w seeds (Some i) = relin_rows w seeds (role_of i)

unfoldable pub relin_in : Setting → List Seed → List Instance → List KeyRow
relin_in w seeds is = relin_from w seeds (done_instance Rlk2 is)

-- the key of the rotation by g
abbrev pub rotation_from : Setting → List Seed → Option Instance → List KeyRow
rotation_from w seeds None = []
rotation_from w seeds (Some i) = rotation_rows w seeds (role_of i)

unfoldable pub rotation_in : Setting → List Seed → List Instance → ℕ → RotationKey
rotation_in w seeds is g = record { g = g; rows = rotation_from w seeds (done_instance (Rot g) is) }

-- the keys of circuit c: the public key, and those that it needs of the others
unfoldable pub keys_in : Setting → List Seed → List Instance → ℕ → Keys
keys_in w seeds is c = record {
  public = key_in w seeds is;
  relin = cond (plan (rules w) c).product (relin_in w seeds is) [];
  rotations = map (rotation_in w seeds is) (plan (rules w) c).turns;
}

-- ---- inputs and outputs under keys

-- the encryption of the value of input k of circuit c, with the words of its owner's stream for that input
unfoldable pub input_of : Setting → List Seed → Key → ℕ → ℕ → Cipher
input_of w seeds key c k =
    drawn_encryption w.numbers.q w.numbers.n w.numbers.t w.numbers.err key (value_at w c k) (seed_in seeds (owner_at w c k)) (input_stream c k) 0

abbrev pub inputs_of : Setting → List Seed → Key → ℕ → List Cipher
inputs_of w seeds key c = map (input_of w seeds key c) (range_with_len 0 (input_count w c))

-- the output of circuit c
unfoldable pub output_of : Setting → List Seed → Keys → ℕ → Cipher
output_of w seeds keys c = output_cipher w.numbers keys (inputs_of w seeds keys.public c) (nodes_at w c)

-- ---- instances, where `keys` are the keys of each circuit

-- what the parties are told: for a second round the sums of its first, for a decryption the second part of the
-- circuit's output
unfoldable pub told_by : Setting → List Seed → (ℕ → Keys) → Signature → Role → List Coefficients
told_by w seeds keys Pk role = []
told_by w seeds keys Rlk1 role = []
told_by w seeds keys Rlk2 role = first_sums w seeds role
told_by w seeds keys (Rot g) role = []
told_by w seeds keys (Dec c) role = (output_of w seeds (keys c) c).c1 ∷ []

abbrev pub polys_of : Setting → List Seed → (ℕ → Keys) → Role → List Coefficients
polys_of w seeds keys role = told_by w seeds keys role.signature role

-- the honest share of party j for an instance
unfoldable pub share_of : Setting → List Seed → (ℕ → Keys) → Instance → ℕ → List Coefficients
share_of w seeds keys i j = share_rows w seeds (role_of i) (polys_of w seeds keys (role_of i)) j

-- the sums of an instance: of one honest share of each party that has sent
unfoldable pub sums_of : Setting → List Seed → (ℕ → Keys) → Instance → List Coefficients
sums_of w seeds keys i = sum_rows w seeds (role_of i) (polys_of w seeds keys (role_of i)) i.sent.bits
