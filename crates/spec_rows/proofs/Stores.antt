-- The polynomials of a session for the setting of three circuits: by the parties' seeds, and as calls make them.
use Rattle.std.proofs.Common.{◌≡◌, ℕ, false, List, [], ◌∷◌, ◌++◌, Some, None, refl}
use Rattle.ring_spec.specs.Ring.{residue, residues, ring_sum, ring_multiple}
use Rattle.ring_spec.specs.Pairs.{Cipher, Key}
use Rattle.ring_spec.specs.Aggregate.{ring_total}
use Rattle.bfv_spec.specs.Scheme.{trivial, decryption, cipher_sum}
use Rattle.bfv_spec.specs.Drawn.{drawn_encryption}
use Rattle.bfv_spec.specs.Shares.{common_poly, honest_pk, pk_from}
use Rattle.gadget_spec.specs.Digits.{Gadget}
use Rattle.gadget_spec.specs.Switching.{KeyRow, rotation}
use Rattle.tensor_spec.specs.Tensors.{tensor, relinearisation}
use Rattle.key_spec.specs.Rotations.{honest_rotation, rotation_key}
use Rattle.key_spec.specs.Relinearisation.{honest_first_round, honest_second_round, relin_key}
use Rattle.dec_spec.specs.Decrypting.{honest_dec}
use Rattle.share_spec.specs.Sets.{has, members_to, members}
use Rattle.share_spec.specs.Seeds.{seed_in, part}
use Rattle.param_set.specs.Moduli.{binary_digits, digits_up_to}
use Rattle.circuit_form.specs.declared.node.Node.TheVariants.{Input, Neg, Mul}
use Rattle.circuit_form.specs.declared.node.Node.TheVariants.{Rot as Turn}
use Rattle.circuit_form.specs.Circuits.{owners}
use Rattle.circuit_form.specs.Values.{given_after}
use Rattle.cipher_spec.specs.Keys.{Keys, no_key, no_keys}
use Rattle.cipher_spec.specs.Keys.{rotation_rows as rows_for}
use Rattle.cipher_spec.specs.Ciphers.{product_cipher, node_cipher, ciphers_from, output_cipher}
use Rattle.proto_names.specs.Names.{same, rows_of}
use Rattle.proto_names.specs.Groups.{with_party, is_outside, number_outside}
use Rattle.proto_names.specs.Instances.{is_done, missing}
use Rattle.proto_names.specs.Roles.{Role}
use Rattle.proto_names.specs.declared.signature.Signature.{Signature}
use Rattle.proto_names.specs.declared.signature.Signature.TheVariants.{Pk, Rlk1, Rlk2, Rot, Dec}
use Rattle.proto_names.specs.declared.instance.Instance.{Instance}
use Rattle.proto_names.specs.declared.instance.Stage.TheVariants.{Opened, Complete, Void}
use Rattle.instance_table.specs.Tables.{row_sum, rows_sum, after_rows}
use Rattle.session_rules.specs.declared.deed.Deed.TheVariants.{Nothing, Joins, Loses, Counts, Gives, Turns}
use Rattle.session_rules.specs.declared.state.CircuitState.TheVariants.{Idle, Taken, Evaluated}
use Rattle.session_rules.specs.Fixing.{plan_of, fixed_from}
use Rattle.session_spec.specs.Settings.{Setting, gadget, rules}
use Rattle.session_spec.specs.Shares.{public_key_share, first_round_share, second_round_share, rotation_share, decryption_share, rows_by, share_rows, sum_row, sum_rows, key_of, first_round, first_sums, relin_rows, rotation_rows}
use Rattle.session_spec.specs.Outputs.{done_instance, key_instance, key_in, relin_in, rotation_in, keys_in, input_of, inputs_of, output_of, told_by, polys_of, share_of, sums_of}
use Rattle.session_spec.specs.Stores.{Store, held_polys, held_sums, held_input, held_output, held_answer, held_key, held_keys, empty, polys_by, grown, with_rows, opened, with_answer, with_input, with_output, share_brought, cipher_brought, nothing_brought, with_turn, with_share, with_deed, store_done}
use Rattle.spec_rows.proofs.Tables.{issued}
use Rattle.spec_rows.proofs.Settings.{numbers, w}

-- ---- honest shares, by the seeds a and b of two parties: with its own seed, and its part in the set of both

abbrev pub role : Signature → ℕ → ℕ → ℕ → Role
role σ id set round1 = record { signature = σ; id = id; set = record { bits = set }; round1 = round1; group = 0 }

-- digits of five bits, of which a residue modulo 1009 has two
abbrev pub two_digits : Gadget
two_digits = record { bits = 5; rows = 2; balanced = false }

pub gadget_is : gadget w ≡ two_digits
unfolding binary_digits digits_up_to
gadget_is = refl

pub share_of_key : (a b : List ℕ) → share_rows w (a ∷ b ∷ []) (role Pk 5 3 0) [] 2 ≡ honest_pk 1009 2 1 (9 ∷ []) b 5 (part 1009 2 2 (a ∷ b ∷ []) 3 2) ∷ []
unfolding rows_by public_key_share seed_in
share_of_key a b = refl

pub share_of_first_round : (a b : List ℕ) → share_rows w (a ∷ b ∷ []) (role Rlk1 5 3 0) [] 2
    ≡ honest_first_round 1009 2 two_digits 1 (9 ∷ []) b 5 (part 1009 2 2 (a ∷ b ∷ []) 3 2)
unfolding rows_by first_round_share seed_in binary_digits digits_up_to
share_of_first_round a b = refl

-- the second round 6 of the first round 5
pub share_of_second_round : (a b : List ℕ) (sums : List (List ℕ)) → share_rows w (a ∷ b ∷ []) (role Rlk2 6 3 5) sums 1
    ≡ honest_second_round 1009 2 two_digits 1 a 5 6 sums (part 1009 2 2 (a ∷ b ∷ []) 3 1)
unfolding rows_by second_round_share seed_in binary_digits digits_up_to
share_of_second_round a b sums = refl

pub share_of_rotation : (a b : List ℕ) → share_rows w (a ∷ b ∷ []) (role (Rot 3) 5 3 0) [] 2
    ≡ honest_rotation 1009 2 two_digits 1 3 (9 ∷ []) b 5 (part 1009 2 2 (a ∷ b ∷ []) 3 2)
unfolding rows_by rotation_share seed_in binary_digits digits_up_to
share_of_rotation a b = refl

pub share_of_decryption : (a b c1 : List ℕ) → share_rows w (a ∷ b ∷ []) (role (Dec 1) 5 3 0) (c1 ∷ []) 1 ≡ honest_dec 1009 2 2 a 5 c1 (part 1009 2 2 (a ∷ b ∷ []) 3 1) ∷ []
unfolding rows_by decryption_share seed_in
share_of_decryption a b c1 = refl

-- sums of those who sent: of nobody, and of the parties 1 and 2; two rows of a rotation, and four of either round
pub sums_of_nobody : (seeds : List (List ℕ)) → (sum_rows w seeds (role (Dec 0) 1 3 0) ((4 ∷ 5 ∷ []) ∷ []) 0 ≡ (0 ∷ 0 ∷ []) ∷ [])
    × (sum_rows w seeds (role (Rot 3) 1 3 0) [] 0 ≡ (0 ∷ 0 ∷ []) ∷ (0 ∷ 0 ∷ []) ∷ [])
    × (sum_rows w seeds (role Rlk1 1 3 0) [] 0 ≡ (0 ∷ 0 ∷ []) ∷ (0 ∷ 0 ∷ []) ∷ (0 ∷ 0 ∷ []) ∷ (0 ∷ 0 ∷ []) ∷ [])
    × (sum_rows w seeds (role Rlk2 2 3 1) [] 0 ≡ (0 ∷ 0 ∷ []) ∷ (0 ∷ 0 ∷ []) ∷ (0 ∷ 0 ∷ []) ∷ (0 ∷ 0 ∷ []) ∷ [])
unfolding sum_rows sum_row rows_of ring_total residues residue members members_to has binary_digits digits_up_to
sums_of_nobody seeds = (refl, refl, refl, refl)

pub sums_of_two : (seeds : List (List ℕ)) → sum_rows w seeds (role Pk 1 3 0) [] 3
    ≡ ring_sum 1009 2 (public_key_share w seeds (role Pk 1 3 0) 1) (ring_sum 1009 2 (public_key_share w seeds (role Pk 1 3 0) 2) (0 ∷ 0 ∷ [])) ∷ []
unfolding sum_rows sum_row rows_by rows_of ring_total residues residue members members_to has
sums_of_two seeds = refl

-- the first round of a second one is of the same parties and the same group
pub first_of_second : first_round (record (role Rlk2 6 5 4) { group = 2 }) ≡ record { signature = Rlk1; id = 4; set = record { bits = 5 }; round1 = 0; group = 2 }
first_of_second = refl

pub sums_of_first : (seeds : List (List ℕ)) → first_sums w seeds (role Rlk2 6 5 4) ≡ sum_rows w seeds (role Rlk1 4 5 0) [] 5
unfolding first_sums
sums_of_first seeds = refl

-- ---- the keys of complete instances

abbrev pub keys : List Instance
keys = issued 1 Pk 3 1 1 (Void 2) 0 ∷ issued 2 (Rot 3) 3 1 3 Complete 0 ∷ issued 3 Pk 5 2 5 Complete 0 ∷ []

pub complete_one : (key_instance keys ≡ Some (issued 3 Pk 5 2 5 Complete 0)) × (key_instance (issued 1 Pk 3 1 1 Opened 0 ∷ []) ≡ None)
    × (done_instance (Rot 3) keys ≡ Some (issued 2 (Rot 3) 3 1 3 Complete 0)) × (done_instance (Rot 5) keys ≡ None) × (done_instance Rlk2 keys ≡ None)
unfolding done_instance is_done same
complete_one = (refl, refl, refl, refl, refl)

pub key_is : (seeds : List (List ℕ)) → key_in w seeds keys ≡ key_of w seeds (role Pk 3 5 0)
unfolding key_in done_instance is_done same
key_is seeds = refl

pub no_key_yet : (seeds : List (List ℕ)) → key_in w seeds (issued 1 Pk 3 1 1 Opened 0 ∷ []) ≡ no_key
unfolding key_in done_instance is_done same
no_key_yet seeds = refl

-- circuit 0 has a product and the rotation by 3, and circuit 1 has neither
abbrev pub switching : Setting
switching = record {
  numbers = numbers;
  public = 9 ∷ [];
  offers = record { nodes = Input 2 ∷ Input 1 ∷ Mul 0 1 ∷ Turn 3 2 ∷ []; values = None } ∷ record { nodes = Input 2 ∷ Neg 0 ∷ []; values = None } ∷ [];
}

-- the second attempt at the first round, its second round, and the rotation
abbrev pub all_keys : List Instance
all_keys = issued 1 Pk 3 1 3 Complete 0 ∷ issued 2 Rlk1 3 1 0 (Void 2) 0 ∷ issued 3 Rlk1 5 2 5 Complete 0 ∷ issued 4 Rlk2 5 1 5 Complete 3 ∷ issued 5 (Rot 3) 6 1 6 Complete 0 ∷ []

pub keys_of_circuits : (seeds : List (List ℕ)) →
    (keys_in switching seeds all_keys 0 ≡ record {
      public = key_of switching seeds (role Pk 1 3 0);
      relin = relin_rows switching seeds (role Rlk2 4 5 3);
      rotations = record { g = 3; rows = rotation_rows switching seeds (role (Rot 3) 5 6 0) } ∷ [];
    })
    × (keys_in switching seeds all_keys 1 ≡ record { public = key_of switching seeds (role Pk 1 3 0); relin = []; rotations = [] })
unfolding keys_in key_in relin_in rotation_in done_instance is_done same rules fixed_from plan_of
keys_of_circuits seeds = (refl, refl)

-- before they are complete there are none
pub no_keys_yet : (seeds : List (List ℕ)) →
    (keys_in switching seeds (issued 1 Pk 3 1 1 Opened 0 ∷ issued 2 Rlk1 3 1 0 (Void 2) 0 ∷ issued 3 Rlk1 5 2 5 Complete 0 ∷ issued 4 Rlk2 5 1 1 Opened 3 ∷ issued 5 (Rot 3) 6 1 6 (Void 1) 0 ∷ []) 0
    ≡ record { public = no_key; relin = []; rotations = record { g = 3; rows = [] } ∷ [] })
    × (keys_in switching seeds [] 1 ≡ no_keys)
unfolding keys_in key_in relin_in rotation_in done_instance is_done same rules fixed_from plan_of
no_keys_yet seeds = (refl, refl)

-- row i of a relinearisation key from the sums of both rounds, and of a rotation key from its sums
pub rows_of_relin : (seeds : List (List ℕ)) → relin_rows switching seeds (role Rlk2 4 5 3)
    ≡ relin_key 1009 2 two_digits (first_sums switching seeds (role Rlk2 4 5 3))
    (sum_rows switching seeds (role Rlk2 4 5 3) (first_sums switching seeds (role Rlk2 4 5 3)) 5)
unfolding relin_rows binary_digits digits_up_to
rows_of_relin seeds = refl

pub rows_of_rotation : (seeds : List (List ℕ)) → rotation_rows switching seeds (role (Rot 3) 5 6 0)
    ≡ rotation_key 1009 2 two_digits (9 ∷ []) 5 (sum_rows switching seeds (role (Rot 3) 5 6 0) [] 6)
unfolding rotation_rows binary_digits digits_up_to
rows_of_rotation seeds = refl

-- of the keys of some rotations that for g
pub key_for : (rows other : List KeyRow) → (rows_for (record { g = 3; rows = rows } ∷ record { g = 5; rows = other } ∷ []) 5 ≡ other)
    × (rows_for (record { g = 3; rows = rows } ∷ record { g = 5; rows = other } ∷ []) 3 ≡ rows) × (rows_for (record { g = 3; rows = rows } ∷ []) 7 ≡ [])
unfolding rows_for
key_for rows other = (refl, refl, refl)

-- ---- inputs and outputs under keys

-- input 0 of circuit 1 is party 2's, and has the stream of these two numbers
pub input_is : (a b : List ℕ) (key : Key) → input_of w (a ∷ b ∷ []) key 1 0 ≡ drawn_encryption 1009 2 4 1 key (1 ∷ 2 ∷ []) b 144115188075921408 0
unfolding input_of owners seed_in
input_is a b key = refl

pub inputs_are : (seeds : List (List ℕ)) (key : Key) → inputs_of w seeds key 1 ≡ input_of w seeds key 1 0 ∷ input_of w seeds key 1 1 ∷ []
unfolding owners
inputs_are seeds key = refl

pub output_is : (seeds : List (List ℕ)) (keys : Keys) → output_of w seeds keys 1 ≡ cipher_sum 1009 2 (input_of w seeds keys.public 1 0) (input_of w seeds keys.public 1 1)
unfolding output_of output_cipher ciphers_from node_cipher given_after owners
output_is seeds keys = refl

-- a product by the relinearisation key, and then the rotation by the key for 3
pub switched_output : (seeds : List (List ℕ)) (key : Key) (relin rows other : List KeyRow) →
    output_of switching seeds (record { public = key; relin = relin; rotations = record { g = 1; rows = other } ∷ record { g = 3; rows = rows } ∷ [] }) 0
    ≡ rotation 1009 2 two_digits rows 3
    (relinearisation 1009 2 two_digits relin (tensor 1009 2 4 (input_of switching seeds key 0 0) (input_of switching seeds key 0 1)))
unfolding output_of output_cipher ciphers_from node_cipher product_cipher given_after owners rows_for binary_digits digits_up_to
switched_output seeds key relin rows other = refl

-- D is 252
pub constant_is : (seeds : List (List ℕ)) (keys : Keys) → output_of w seeds keys 0 ≡ record { c0 = 756 ∷ 504 ∷ []; c1 = 0 ∷ 0 ∷ [] }
unfolding output_of output_cipher ciphers_from node_cipher given_after owners trivial ring_multiple residues residue
constant_is seeds keys = refl

-- what the parties are told: of a second round the sums of its first, and of a decryption the output's second part
pub polys_are : (seeds : List (List ℕ)) (keys : ℕ → Keys) → (polys_of w seeds keys (role (Dec 0) 4 3 0) ≡ (0 ∷ 0 ∷ []) ∷ [])
    × (polys_of w seeds keys (role Pk 4 3 0) ≡ []) × (polys_of w seeds keys (role Rlk1 4 3 0) ≡ []) × (polys_of w seeds keys (role (Rot 3) 4 3 0) ≡ [])
    × (polys_of w seeds keys (role Rlk2 6 5 4) ≡ first_sums w seeds (role Rlk2 6 5 4))
unfolding told_by output_of output_cipher ciphers_from node_cipher given_after owners trivial ring_multiple residues residue
polys_are seeds keys = (refl, refl, refl, refl, refl)

pub share_is : (seeds : List (List ℕ)) (keys : ℕ → Keys) → share_of w seeds keys (issued 4 (Dec 0) 3 1 0 Opened 0) 2 ≡ decryption_share w seeds (role (Dec 0) 4 3 0) (0 ∷ 0 ∷ []) 2 ∷ []
unfolding share_of rows_by told_by output_of output_cipher ciphers_from node_cipher given_after owners trivial ring_multiple residues residue
share_is seeds keys = refl

pub second_share_is : (seeds : List (List ℕ)) (keys : ℕ → Keys) → share_of w seeds keys (issued 6 Rlk2 5 1 0 Opened 4) 3
    ≡ second_round_share w seeds (role Rlk2 6 5 4) (first_sums w seeds (role Rlk2 6 5 4)) 3
unfolding share_of rows_by told_by
second_share_is seeds keys = refl

pub sums_are : (seeds : List (List ℕ)) (keys : ℕ → Keys) → sums_of w seeds keys (issued 4 (Dec 0) 3 1 0 Opened 0) ≡ (0 ∷ 0 ∷ []) ∷ []
unfolding sums_of sum_rows sum_row rows_of ring_total residues residue members members_to has
sums_are seeds keys = refl

-- ---- what calls make of the polynomials that are kept

abbrev pub output : Cipher
output = record { c0 = 756 ∷ 504 ∷ []; c1 = 6 ∷ 7 ∷ [] }

pub at_first : empty w ≡ record { told = []; sums = []; inputs = [] ∷ (None ∷ None ∷ []) ∷ (None ∷ None ∷ []) ∷ []; outputs = None ∷ None ∷ None ∷ []; answers = None ∷ None ∷ None ∷ [] }
unfolding empty owners
at_first = refl

abbrev pub some : Store
some = record {
  told = [] ∷ ((6 ∷ 7 ∷ []) ∷ []) ∷ [];
  sums = ((3 ∷ 4 ∷ []) ∷ []) ∷ ((1 ∷ 1000 ∷ []) ∷ []) ∷ [];
  inputs = [] ∷ (None ∷ None ∷ []) ∷ [];
  outputs = Some output ∷ None ∷ [];
  answers = None ∷ None ∷ [];
}

abbrev pub two : List Instance
two = issued 1 Pk 3 1 3 Complete 0 ∷ issued 2 (Dec 0) 3 1 1 Opened 0 ∷ []

-- instances and circuits by their numbers, from 1 and from 0
pub held : (held_polys some 2 ≡ (6 ∷ 7 ∷ []) ∷ []) × (held_sums some 1 ≡ (3 ∷ 4 ∷ []) ∷ []) × (held_sums some 3 ≡ []) × (held_output some 0 ≡ Some output) × (held_output some 1 ≡ None) × (held_input some 1 0 ≡ None) × (held_answer some 2 ≡ None)
held = (refl, refl, refl, refl, refl, refl, refl)

pub key_held : (held_key w some two ≡ Some (pk_from 1009 2 (9 ∷ []) 1 (3 ∷ 4 ∷ []))) × (held_key w some [] ≡ None)
unfolding held_key done_instance is_done same
key_held = (refl, refl)

-- both rounds, of which the second is of two rows for each digit too, and a rotation
abbrev pub with_keys : Store
with_keys = record some {
  sums = ((3 ∷ 4 ∷ []) ∷ []) ∷ ((9 ∷ 9 ∷ []) ∷ (9 ∷ 9 ∷ []) ∷ (9 ∷ 9 ∷ []) ∷ (9 ∷ 9 ∷ []) ∷ [])
      ∷ ((1 ∷ 2 ∷ []) ∷ (3 ∷ 4 ∷ []) ∷ (5 ∷ 6 ∷ []) ∷ (7 ∷ 8 ∷ []) ∷ [])
      ∷ ((100 ∷ 200 ∷ []) ∷ (950 ∷ 900 ∷ []) ∷ (10 ∷ 20 ∷ []) ∷ (30 ∷ 40 ∷ []) ∷ [])
      ∷ ((11 ∷ 12 ∷ []) ∷ (13 ∷ 14 ∷ []) ∷ []) ∷ [];
}

-- rows (k0 + k1, h1): 100 + 950 and 200 + 900 beside the first h1, and 10 + 30 and 20 + 40 beside the second; those of a
-- rotation beside their common polynomials; and for a circuit with neither only the public key
pub keys_held : (held_keys switching with_keys all_keys 0 ≡ record {
  public = pk_from 1009 2 (9 ∷ []) 1 (3 ∷ 4 ∷ []);
  relin = record { b = 41 ∷ 91 ∷ []; a = 3 ∷ 4 ∷ [] } ∷ record { b = 40 ∷ 60 ∷ []; a = 7 ∷ 8 ∷ [] } ∷ [];
  rotations = record { g = 3; rows = record { b = 11 ∷ 12 ∷ []; a = common_poly 1009 2 (9 ∷ []) 5 0 } ∷ record { b = 13 ∷ 14 ∷ []; a = common_poly 1009 2 (9 ∷ []) 5 1 } ∷ [] } ∷ [];
})
    × (held_keys switching with_keys all_keys 1 ≡ record { public = pk_from 1009 2 (9 ∷ []) 1 (3 ∷ 4 ∷ []); relin = []; rotations = [] })
    × (held_keys switching with_keys [] 0 ≡ record { public = no_key; relin = []; rotations = record { g = 3; rows = [] } ∷ [] })
unfolding held_keys done_instance is_done same rules fixed_from plan_of relin_key rotation_key ring_sum residues residue binary_digits digits_up_to
keys_held = (refl, refl, refl)

-- what is told of a second round is the sums of its first, of which the third instance is one
pub polys_by_signature : (polys_by with_keys Rlk2 3 ≡ (1 ∷ 2 ∷ []) ∷ (3 ∷ 4 ∷ []) ∷ (5 ∷ 6 ∷ []) ∷ (7 ∷ 8 ∷ []) ∷ []) × (polys_by with_keys Rlk2 9 ≡ [])
    × (polys_by with_keys (Dec 0) 0 ≡ (6 ∷ 7 ∷ []) ∷ []) × (polys_by with_keys Pk 0 ≡ []) × (polys_by with_keys Rlk1 0 ≡ []) × (polys_by with_keys (Rot 3) 0 ≡ [])
unfolding polys_by
polys_by_signature = (refl, refl, refl, refl, refl, refl)

-- an instance that is issued is told its polynomials, and begins with sums of zero; those before it stay
pub grows : grown w (two ++ issued 3 (Dec 0) 5 2 0 Opened 0 ∷ issued 4 Rlk1 5 1 0 Opened 0 ∷ []) some
    ≡ record some {
      told = [] ∷ ((6 ∷ 7 ∷ []) ∷ []) ∷ ((6 ∷ 7 ∷ []) ∷ []) ∷ [] ∷ [];
      sums = ((3 ∷ 4 ∷ []) ∷ []) ∷ ((1 ∷ 1000 ∷ []) ∷ []) ∷ ((0 ∷ 0 ∷ []) ∷ []) ∷ ((0 ∷ 0 ∷ []) ∷ (0 ∷ 0 ∷ []) ∷ (0 ∷ 0 ∷ []) ∷ (0 ∷ 0 ∷ []) ∷ []) ∷ [];
    }
unfolding grown polys_by rows_of binary_digits digits_up_to
grows = refl

-- ---- deeds

-- a decryption of circuit 0 to which these parties sent
abbrev decrypting : ℕ → Instance
decrypting sent = issued 2 (Dec 0) 3 1 sent Opened 0

-- a share that isn't the last one is added to the sums of its instance
pub counted : store_done w (Counts (decrypting 0) 1) (share_brought ((2 ∷ 10 ∷ []) ∷ [])) two some ≡ record some { sums = ((3 ∷ 4 ∷ []) ∷ []) ∷ ((3 ∷ 1 ∷ []) ∷ []) ∷ [] }
unfolding store_done with_deed with_share missing with_party number_outside is_outside has with_rows after_rows rows_sum row_sum ring_sum residues residue
counted = refl

-- the last one answers its circuit: 756 + 3 and 504 + 1 are decrypted to 3 and 2; and
-- what is issued then begins with sums of zero, a second round told those of its first
pub completed : store_done w (Counts (decrypting 1) 2) (share_brought ((2 ∷ 10 ∷ []) ∷ [])) (two ++ issued 3 Rlk2 5 1 0 Opened 1 ∷ []) some
    ≡ record some {
      told = [] ∷ ((6 ∷ 7 ∷ []) ∷ []) ∷ ((3 ∷ 4 ∷ []) ∷ []) ∷ [];
      sums = ((3 ∷ 4 ∷ []) ∷ []) ∷ ((3 ∷ 1 ∷ []) ∷ []) ∷ ((0 ∷ 0 ∷ []) ∷ (0 ∷ 0 ∷ []) ∷ (0 ∷ 0 ∷ []) ∷ (0 ∷ 0 ∷ []) ∷ []) ∷ [];
      answers = Some (3 ∷ 2 ∷ []) ∷ None ∷ [];
    }
unfolding store_done with_deed with_share missing with_party number_outside is_outside has with_answer opened decryption grown polys_by rows_of binary_digits digits_up_to with_rows after_rows rows_sum row_sum ring_sum residues residue
completed = refl

-- the last one of a key answers no circuit
pub key_completed : store_done w (Counts (issued 1 Pk 3 1 1 Opened 0) 2) (share_brought ((2 ∷ 10 ∷ []) ∷ [])) two some ≡ record some { sums = ((5 ∷ 14 ∷ []) ∷ []) ∷ ((1 ∷ 1000 ∷ []) ∷ []) ∷ [] }
unfolding store_done with_deed with_share missing with_party number_outside is_outside has with_answer grown polys_by rows_of with_rows after_rows rows_sum row_sum ring_sum residues residue
key_completed = refl

-- where nothing is done nothing changes, whatever is brought and whatever is issued
pub refused : (store_done w Nothing (share_brought ((2 ∷ 10 ∷ []) ∷ [])) two some ≡ some) × (store_done w Nothing (cipher_brought output) (two ++ issued 3 Pk 5 2 0 Opened 0 ∷ []) some ≡ some)
unfolding store_done with_deed
refused = (refl, refl)

-- what is issued when a party joins or is lost begins with sums of zero
abbrev with_key : Store
with_key = record some {
  told = [] ∷ ((6 ∷ 7 ∷ []) ∷ []) ∷ [] ∷ [];
  sums = ((3 ∷ 4 ∷ []) ∷ []) ∷ ((1 ∷ 1000 ∷ []) ∷ []) ∷ ((0 ∷ 0 ∷ []) ∷ []) ∷ [];
}

pub joined : (store_done w (Joins 1) nothing_brought (two ++ issued 3 Pk 5 2 0 Opened 0 ∷ []) some ≡ with_key) × (store_done w (Joins 1) nothing_brought two some ≡ some)
unfolding store_done with_deed grown polys_by rows_of
joined = (refl, refl)

pub lost : store_done w (Loses 2) nothing_brought (two ++ issued 3 Pk 5 2 0 Opened 0 ∷ []) some ≡ with_key
unfolding store_done with_deed grown polys_by rows_of
lost = refl

pub gives : store_done w (Gives 1 1) (cipher_brought output) two some ≡ record some { inputs = [] ∷ (None ∷ Some output ∷ []) ∷ [] }
unfolding store_done with_deed with_input
gives = refl

-- with an output the decryption of its circuit may be issued, and is told its second part
pub finishes : store_done w (Turns 1 Evaluated) (cipher_brought output) (two ++ issued 3 (Dec 1) 3 1 0 Opened 0 ∷ []) some
    ≡ record some {
      told = [] ∷ ((6 ∷ 7 ∷ []) ∷ []) ∷ ((6 ∷ 7 ∷ []) ∷ []) ∷ [];
      sums = ((3 ∷ 4 ∷ []) ∷ []) ∷ ((1 ∷ 1000 ∷ []) ∷ []) ∷ ((0 ∷ 0 ∷ []) ∷ []) ∷ [];
      outputs = Some output ∷ Some output ∷ [];
    }
unfolding store_done with_deed with_turn with_output grown polys_by rows_of
finishes = refl

-- a circuit that is taken or given back has no output, whatever is brought
pub not_finished : (store_done w (Turns 1 (Taken 4)) nothing_brought two some ≡ some) × (store_done w (Turns 1 Idle) (cipher_brought output) two some ≡ some)
unfolding store_done with_deed with_turn
not_finished = (refl, refl)
