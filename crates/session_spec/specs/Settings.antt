-- What a session is about, and no call changes.
use Rattle.std.specs.Prelude.{◌≡◌, ℕ, true, List, [], map, length, slice_index_or, unwrap_or, All, Option, Some, None}
use Rattle.ring_spec.specs.Ring.{IsPoly}
use Rattle.param_set.specs.declared.params.Params.{Params}
use Rattle.param_set.specs.Moduli.{digit_rows}
use Rattle.circuit_form.specs.declared.node.Node.{Node}
use Rattle.circuit_form.specs.Circuits.{first_fault, owners}
use Rattle.circuit_form.specs.Values.{plain_value}
use Rattle.param_set.specs.Numbers.{Numbers, numbers_of}
use Rattle.gadget_spec.specs.Digits.{Gadget}
use Rattle.cipher_spec.specs.Keys.{gadget_of}
use Rattle.cipher_spec.specs.Ciphers.{is_switch_free}
use Rattle.session_rules.specs.declared.fixed.Fixed.{Fixed}
use Rattle.session_rules.specs.Fixing.{fixed_of}

-- a circuit, and, where they are told, the values of its inputs in the order of their nodes
pub record Offer : Type 0 where
  pub nodes : List Node
  pub values : Option (List (List ℕ))

abbrev pub nodes_of : Offer → List Node
nodes_of offer = offer.nodes

-- the numbers of the parameters, the public seed, and the circuits
pub record Setting : Type 0 where
  pub numbers : Numbers
  pub public : List ℕ
  pub offers : List Offer

-- l, the rows of the gadget
abbrev pub gadget_rows : Setting → ℕ
gadget_rows w = digit_rows w.numbers.q w.numbers.digit_bits

abbrev pub gadget : Setting → Gadget
gadget w = gadget_of w.numbers

-- what the rules of a session look at
unfoldable pub rules : Setting → Fixed
rules w = fixed_of w.numbers (map nodes_of w.offers)

-- ---- circuit c

abbrev pub no_offer : Offer
no_offer = record { nodes = []; values = None }

abbrev pub nodes_at : Setting → ℕ → List Node
nodes_at w c = (slice_index_or w.offers c no_offer).nodes

-- the values of its inputs, the owners of its inputs, and one of each
abbrev pub values_at : Setting → ℕ → List (List ℕ)
values_at w c = unwrap_or (slice_index_or w.offers c no_offer).values []

abbrev pub value_at : Setting → ℕ → ℕ → List ℕ
value_at w c k = slice_index_or (values_at w c) k []

abbrev pub owner_at : Setting → ℕ → ℕ → ℕ
owner_at w c k = slice_index_or (owners (nodes_at w c)) k 0

abbrev pub input_count : Setting → ℕ → ℕ
input_count w c = length (owners (nodes_at w c))

-- its plain value
unfoldable pub plain_at : Setting → ℕ → List ℕ
plain_at w c = plain_value w.numbers.n w.numbers.t (values_at w c) (nodes_at w c)

-- ---- what a setting has to keep

-- a circuit keeps its rules
pub record Keeps (p : Params) (offer : Offer) : Type 0 where
  pub rules : first_fault p.n p.t p.parties offer.nodes ≡ None

-- its values are told: one plaintext for each input
pub record Tells (p : Params) (offer : Offer) : Type 0 where
  pub values : List (List ℕ)
  pub told : offer.values ≡ Some values
  pub number : length values ≡ length (owners offer.nodes)
  pub plain : All (IsPoly p.t p.n) values

-- a setting with these parameters
pub record IsSetting (p : Params) (w : Setting) : Type 0 where
  pub numbers : w.numbers ≡ numbers_of p
  pub circuits : All (Keeps p) w.offers

abbrev pub HasValues : Params → Setting → Type 0
HasValues p w = All (Tells p) w.offers

-- no circuit has a rotation or a product of two ciphertexts: then no other key is needed than the public key
abbrev pub IsSwitchFree : Offer → Type 0
IsSwitchFree offer = is_switch_free offer.nodes ≡ true

abbrev pub NeedsNoSwitch : Setting → Type 0
NeedsNoSwitch w = All IsSwitchFree w.offers
