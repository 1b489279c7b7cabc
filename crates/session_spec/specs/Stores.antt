-- The polynomials that a session keeps, and what its calls make of them, whatever the shares were.
use Rattle.std.specs.Prelude.{ℕ, ◌-◌, cond, if◌then◌else◌, List, [], ◌∷◌, ◌++◌, map, length, drop, replicate, slice_index_or, slice_set, Option, Some, None}
use Rattle.std.specs.Option.{option_map}
use Rattle.ring_spec.specs.Ring.{ring_sum}
use Rattle.ring_spec.specs.Pairs.{Cipher, Key}
use Rattle.bfv_spec.specs.Scheme.{decryption}
use Rattle.bfv_spec.specs.Shares.{pk_from}
use Rattle.gadget_spec.specs.Switching.{KeyRow}
use Rattle.key_spec.specs.Rotations.{rotation_key}
use Rattle.key_spec.specs.Relinearisation.{relin_key}
use Rattle.cipher_spec.specs.Keys.{Keys, RotationKey, no_key}
use Rattle.cipher_spec.specs.Ciphers.{no_cipher}
use Rattle.proto_names.specs.Names.{rows_of}
use Rattle.proto_names.specs.declared.signature.Signature.{Signature}
use Rattle.proto_names.specs.declared.signature.Signature.TheVariants.{Pk, Rlk1, Rlk2, Rot, Dec}
use Rattle.proto_names.specs.declared.instance.Instance.{Instance}
use Rattle.instance_table.specs.Tables.{after_rows}
use Rattle.session_rules.specs.declared.deed.Deed.{Deed}
use Rattle.session_rules.specs.declared.deed.Deed.TheVariants.{Nothing, Joins, Loses, Counts, Gives, Turns}
use Rattle.session_rules.specs.declared.state.CircuitState.{CircuitState}
use Rattle.session_rules.specs.declared.state.CircuitState.TheVariants.{Refused, Idle, Taken, Evaluated, Answered}
use Rattle.session_rules.specs.Deeds.{is_last, leads_on}
use Rattle.session_rules.specs.States.{plan}
use Rattle.session_spec.specs.Settings.{Setting, Offer, rules, gadget, gadget_rows}
use Rattle.session_spec.specs.Outputs.{done_instance, key_instance}
use Rattle.circuit_form.specs.Circuits.{owners}

-- of each instance the polynomials that its parties are told, and the sums of the shares that were counted; of
-- each circuit the inputs that are given, its output, and its answer, as far as they are there
pub record Store : Type 0 where
  pub told : List (List (List ℕ))
  pub sums : List (List (List ℕ))
  pub inputs : List (List (Option Cipher))
  pub outputs : List (Option Cipher)
  pub answers : List (Option (List ℕ))

-- ---- what it holds

abbrev pub held_polys : Store → ℕ → List (List ℕ)
held_polys h id = slice_index_or h.told (id - 1) []

abbrev pub held_sums : Store → ℕ → List (List ℕ)
held_sums h id = slice_index_or h.sums (id - 1) []

abbrev pub held_input : Store → ℕ → ℕ → Option Cipher
held_input h c k = slice_index_or (slice_index_or h.inputs c []) k None

abbrev pub held_output : Store → ℕ → Option Cipher
held_output h c = slice_index_or h.outputs c None

abbrev pub held_answer : Store → ℕ → Option (List ℕ)
held_answer h c = slice_index_or h.answers c None

-- a ciphertext that may be there
abbrev pub cipher_or : Option Cipher → Cipher
cipher_or None = no_cipher
cipher_or (Some c) = c

-- the public key that the sums of its complete instance make
abbrev pub key_by : Setting → Store → Instance → Key
key_by w h i = pk_from w.numbers.q w.numbers.n w.public i.id (slice_index_or (held_sums h i.id) 0 [])

unfoldable pub held_key : Setting → Store → List Instance → Option Key
held_key w h is = option_map (key_by w h) (key_instance is)

-- the rows of the relinearisation key that the sums of a second round and of its first make, and those of the rotation
-- key of an instance
abbrev pub relin_by : Setting → Store → Instance → List KeyRow
relin_by w h i = relin_key w.numbers.q w.numbers.n (gadget w) (held_sums h i.round1) (held_sums h i.id)

abbrev pub rotation_by : Setting → Store → Instance → List KeyRow
rotation_by w h i = rotation_key w.numbers.q w.numbers.n (gadget w) w.public i.id (held_sums h i.id)

-- the same where there may be none
abbrev pub key_or : Setting → Store → Option Instance → Key
key_or w h None = no_key
key_or w h (Some i) = key_by w h i

abbrev pub relin_or : Setting → Store → Option Instance → List KeyRow
relin_or w h None = []
relin_or w h (Some i) = relin_by w h i

abbrev pub rotation_or : Setting → Store → Option Instance → List KeyRow
rotation_or w h None = []
rotation_or w h (Some i) = rotation_by w h i

abbrev pub held_rotation : Setting → Store → List Instance → ℕ → RotationKey
held_rotation w h is g = record { g = g; rows = rotation_or w h (done_instance (Rot g) is) }

-- the keys of circuit c, from the sums of the shares that were counted: the public key, and those that it needs of
-- the others
unfoldable pub held_keys : Setting → Store → List Instance → ℕ → Keys
held_keys w h is c = record {
  public = key_or w h (key_instance is);
  relin = cond (plan (rules w) c).product (relin_or w h (done_instance Rlk2 is)) [];
  rotations = map (held_rotation w h is) (plan (rules w) c).turns;
}

-- ---- at first

abbrev pub no_inputs : Offer → List (Option Cipher)
no_inputs offer = replicate (length (owners offer.nodes)) None

unfoldable pub empty : Setting → Store
empty w = record {
  told = [];
  sums = [];
  inputs = map no_inputs w.offers;
  outputs = replicate (length w.offers) None;
  answers = replicate (length w.offers) None;
}

-- ---- instances that are issued: nothing is added to their sums

-- what the parties of one with a signature and a first round are told: for a second round the sums of its first, for
-- a decryption the second part of the circuit's output
unfoldable pub polys_by : Store → Signature → ℕ → List (List ℕ)
polys_by h Pk first = []
polys_by h Rlk1 first = []
polys_by h Rlk2 first = held_sums h first
polys_by h (Rot g) first = []
polys_by h (Dec c) first = (cipher_or (held_output h c)).c1 ∷ []

abbrev pub polys_told : Store → Instance → List (List ℕ)
polys_told h i = polys_by h i.signature i.round1

abbrev pub zero_sums : Setting → Instance → List (List ℕ)
zero_sums w i = replicate (rows_of i.signature (gadget_rows w)) (replicate w.numbers.n 0)

-- the store once the instances are these, of which it has the first
unfoldable pub grown : Setting → List Instance → Store → Store
grown w is h = record h {
  told = h.told ++ map (polys_told h) (drop (length h.told) is);
  sums = h.sums ++ map (zero_sums w) (drop (length h.sums) is);
}

-- ---- shares

-- the rows of a share are added to the sums of its instance
unfoldable pub with_rows : Setting → ℕ → List (List ℕ) → Store → Store
with_rows w id rows h = record h { sums = after_rows w.numbers.q w.numbers.n id rows h.sums }

-- what a complete decryption of circuit c gives: the decryption of the output's first part and its sums' row
unfoldable pub opened : Setting → Store → ℕ → ℕ → List ℕ
opened w h id c =
    decryption w.numbers.q w.numbers.t (ring_sum w.numbers.q w.numbers.n (cipher_or (held_output h c)).c0 (slice_index_or (held_sums h id) 0 []))

-- a complete decryption answers its circuit
unfoldable pub with_answer : Setting → ℕ → Signature → Store → Store
with_answer w id Pk h = h
with_answer w id Rlk1 h = h
with_answer w id Rlk2 h = h
with_answer w id (Rot g) h = h
with_answer w id (Dec c) h = record h { answers = slice_set h.answers c (Some (opened w h id c)) }

-- ---- inputs and outputs

unfoldable pub with_input : ℕ → ℕ → Cipher → Store → Store
with_input c k ct h = record h { inputs = slice_set h.inputs c (slice_set (slice_index_or h.inputs c []) k (Some ct)) }

unfoldable pub with_output : ℕ → Cipher → Store → Store
with_output c ct h = record h { outputs = slice_set h.outputs c (Some ct) }

-- ---- any deed

-- what a call brings besides its numbers: the rows of a share, and a ciphertext
pub record Brought : Type 0 where
  pub rows : List (List ℕ)
  pub cipher : Cipher

abbrev pub share_brought : List (List ℕ) → Brought
share_brought rows = record { rows = rows; cipher = no_cipher }

abbrev pub cipher_brought : Cipher → Brought
cipher_brought ct = record { rows = []; cipher = ct }

abbrev pub nothing_brought : Brought
nothing_brought = share_brought []

-- a circuit that is evaluated has its output
unfoldable pub with_turn : ℕ → CircuitState → Cipher → Store → Store
with_turn c (Refused place bound limit) ct h = h
with_turn c Idle ct h = h
with_turn c (Taken who) ct h = h
with_turn c Evaluated ct h = with_output c ct h
with_turn c Answered ct h = h

-- the last share of a decryption answers its circuit
unfoldable pub with_share : Setting → Instance → ℕ → List (List ℕ) → Store → Store
with_share w i p rows h = cond (is_last p i) (with_answer w i.id i.signature (with_rows w i.id rows h)) (with_rows w i.id rows h)

-- what a deed changes by itself
unfoldable pub with_deed : Setting → Deed → Brought → Store → Store
with_deed w Nothing b h = h
with_deed w (Joins p) b h = h
with_deed w (Loses p) b h = h
with_deed w (Counts i p) b h = with_share w i p b.rows h
with_deed w (Gives c k) b h = with_input c k b.cipher h
with_deed w (Turns c now) b h = with_turn c now b.cipher h

-- the store once it is done, where the instances are then these
unfoldable pub store_done : Setting → Deed → Brought → List Instance → Store → Store
store_done w d b is h = if leads_on d then grown w is (with_deed w d b h) else with_deed w d b h
