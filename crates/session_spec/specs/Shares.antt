-- The honest shares of an instance, their sums, and the keys that they make. `seeds` are those of the parties.
use Rattle.std.specs.Prelude.{ℕ, List, [], ◌∷◌, map, slice_index_or}
use Rattle.std.specs.List.{range_with_len}
use Rattle.ring_spec.specs.Ring.{Coefficients}
use Rattle.ring_spec.specs.Pairs.{Key}
use Rattle.ring_spec.specs.Aggregate.{ring_total}
use Rattle.draw_spec.specs.Places.{Seed}
use Rattle.bfv_spec.specs.Shares.{honest_pk, pk_from}
use Rattle.dec_spec.specs.Decrypting.{honest_dec}
use Rattle.gadget_spec.specs.Switching.{KeyRow}
use Rattle.key_spec.specs.Rotations.{honest_rotation, rotation_key}
use Rattle.key_spec.specs.Relinearisation.{honest_first_round, honest_second_round, relin_key}
use Rattle.share_spec.specs.Sets.{members}
use Rattle.share_spec.specs.Seeds.{seed_in, part}
use Rattle.proto_names.specs.Names.{rows_of}
use Rattle.proto_names.specs.Roles.{Role}
use Rattle.proto_names.specs.declared.signature.Signature.{Signature}
use Rattle.proto_names.specs.declared.signature.Signature.TheVariants.{Pk, Rlk1, Rlk2, Rot, Dec}
use Rattle.session_spec.specs.Settings.{Setting, gadget, gadget_rows}

-- ---- one party's share

-- what party j takes part with where the set of a role acts: its share of the secret times its Lagrange coefficient
abbrev pub part_of : Setting → List Seed → Role → ℕ → Coefficients
part_of w seeds role j = part w.numbers.q w.numbers.n w.numbers.threshold seeds role.set.bits j

-- its share for each signature; noise is added after the scaling by the Lagrange coefficient
unfoldable pub public_key_share : Setting → List Seed → Role → ℕ → Coefficients
public_key_share w seeds role j =
    honest_pk w.numbers.q w.numbers.n w.numbers.err w.public (seed_in seeds j) role.id (part_of w seeds role j)

unfoldable pub first_round_share : Setting → List Seed → Role → ℕ → List Coefficients
first_round_share w seeds role j =
    honest_first_round w.numbers.q w.numbers.n (gadget w) w.numbers.err w.public (seed_in seeds j) role.id (part_of w seeds role j)

-- `sums` are those of the first round
unfoldable pub second_round_share : Setting → List Seed → Role → List Coefficients → ℕ → List Coefficients
second_round_share w seeds role sums j =
    honest_second_round w.numbers.q w.numbers.n (gadget w) w.numbers.err (seed_in seeds j) role.round1 role.id sums (part_of w seeds role j)

unfoldable pub rotation_share : Setting → List Seed → Role → ℕ → ℕ → List Coefficients
rotation_share w seeds role g j =
    honest_rotation w.numbers.q w.numbers.n (gadget w) w.numbers.err g w.public (seed_in seeds j) role.id (part_of w seeds role j)

-- c1 is the second part of the ciphertext that is decrypted
unfoldable pub decryption_share : Setting → List Seed → Role → Coefficients → ℕ → Coefficients
decryption_share w seeds role c1 j =
    honest_dec w.numbers.q w.numbers.n w.numbers.flood (seed_in seeds j) role.id c1 (part_of w seeds role j)

-- the rows of its share for a signature, made from what the parties are told
unfoldable pub rows_by : Setting → List Seed → Signature → Role → List Coefficients → ℕ → List Coefficients
rows_by w seeds Pk role polys j = public_key_share w seeds role j ∷ []
rows_by w seeds Rlk1 role polys j = first_round_share w seeds role j
rows_by w seeds Rlk2 role polys j = second_round_share w seeds role polys j
rows_by w seeds (Rot g) role polys j = rotation_share w seeds role g j
rows_by w seeds (Dec c) role polys j = decryption_share w seeds role (slice_index_or polys 0 []) j ∷ []

abbrev pub share_rows : Setting → List Seed → Role → List Coefficients → ℕ → List Coefficients
share_rows w seeds role polys j = rows_by w seeds role.signature role polys j

-- ---- sums

-- row r of it
abbrev pub share_row : Setting → List Seed → Role → List Coefficients → ℕ → ℕ → Coefficients
share_row w seeds role polys r j = slice_index_or (share_rows w seeds role polys j) r []

-- row r of the sum of the shares of those who sent, modulo q, and all rows
unfoldable pub sum_row : Setting → List Seed → Role → List Coefficients → ℕ → ℕ → Coefficients
sum_row w seeds role polys sent r =
    ring_total w.numbers.q w.numbers.n (map (share_row w seeds role polys r) (members sent))

unfoldable pub sum_rows : Setting → List Seed → Role → List Coefficients → ℕ → List Coefficients
sum_rows w seeds role polys sent = map (sum_row w seeds role polys sent) (range_with_len 0 (rows_of role.signature (gadget_rows w)))

-- the sums of an instance to which each party of its set has sent
abbrev pub full_sums : Setting → List Seed → Role → List Coefficients → List Coefficients
full_sums w seeds role polys = sum_rows w seeds role polys role.set.bits

-- ---- keys from them

-- the public key of an instance
unfoldable pub key_of : Setting → List Seed → Role → Key
key_of w seeds role = pk_from w.numbers.q w.numbers.n w.public role.id (slice_index_or (full_sums w seeds role []) 0 [])

-- the first round of a second one, which is of the same parties, and its sums
abbrev pub first_round : Role → Role
first_round role = record role { signature = Rlk1; id = role.round1; round1 = 0 }

unfoldable pub first_sums : Setting → List Seed → Role → List Coefficients
first_sums w seeds role = full_sums w seeds (first_round role) []

-- the rows of the relinearisation key of a second round, and those of a rotation key
unfoldable pub relin_rows : Setting → List Seed → Role → List KeyRow
relin_rows w seeds role =
    relin_key w.numbers.q w.numbers.n (gadget w) (first_sums w seeds role) (full_sums w seeds role (first_sums w seeds role))

unfoldable pub rotation_rows : Setting → List Seed → Role → List KeyRow
rotation_rows w seeds role = rotation_key w.numbers.q w.numbers.n (gadget w) w.public role.id (full_sums w seeds role [])
