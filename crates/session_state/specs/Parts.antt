-- The parts of a standing as the setting, the state and the store that they stand for, and what holds of them
-- whatever the shares were.
use Rattle.std.specs.Prelude.{◌≡◌, ℕ, ◌<◌, true, List, [], map, length, All, Option, Some, None, is_some}
use Rattle.std.specs.declared.alloc.Global.{Global}
use Rattle.std.specs.declared.sync.Arc.{Arc}
use Rattle.ring_spec.specs.Ring.{IsPoly}
use Rattle.ring_spec.specs.Pairs.{Cipher, CipherFits}
use Rattle.param_set.specs.declared.params.Params.{Params}
use Rattle.param_set.specs.Moduli.{digit_rows}
use Rattle.param_set.specs.Numbers.{numbers_of}
use Rattle.proto_names.specs.Names.{polys_of_brief}
use Rattle.proto_names.specs.Instances.{instance}
use Rattle.proto_names.specs.Roles.{first_groups}
use Rattle.proto_names.specs.declared.signature.Signature.{Signature}
use Rattle.proto_names.specs.declared.instance.Instance.{Instance}
use Rattle.instance_table.specs.declared.brief.Brief.{Brief}
use Rattle.session_rules.specs.declared.state.CircuitState.TheVariants.{Answered}
use Rattle.session_rules.specs.States.{State, circuit, is_given}
use Rattle.session_rules.specs.Facts.{IsLive, is_settled}
use Rattle.session_spec.specs.Settings.{Setting, Offer}
use Rattle.session_spec.specs.Stores.{Store, held_polys, held_input, held_output, held_answer, cipher_or}
use Rattle.session_state.specs.Shared.{shared_if}

-- ---- setting and store

abbrev pub setting_by : Params → List ℕ → List Offer → Setting
setting_by params public offers = record { numbers = numbers_of params; public = public; offers = offers }

abbrev pub polys_in : Arc Brief Global → List (List ℕ)
polys_in brief = brief.value.polys

abbrev pub ciphers_in : List (Option (Arc Cipher Global)) → List (Option Cipher)
ciphers_in inputs = map shared_if inputs

abbrev pub store_by : List (Arc Brief Global) → List (List (List ℕ)) → List (List (Option (Arc Cipher Global))) → List (Option Cipher) → List (Option (List ℕ)) → Store
store_by briefs sums inputs outputs answers = record {
  told = map polys_in briefs;
  sums = sums;
  inputs = map ciphers_in inputs;
  outputs = outputs;
  answers = answers;
}

-- a brief whose instance is for the one group
abbrev pub IsOfFirst : Params → Arc Brief Global → Type 0
IsOfFirst p brief = brief.value.groups.value ≡ first_groups p.threshold p.parties

-- an input that is there
abbrev pub IsThere : Option (Arc Cipher Global) → Type 0
IsThere input = is_some input ≡ true

-- ---- what it holds: all that is given, evaluated or answered is there, and fits

-- the polynomials that the parties of an instance are told
pub record AreTold (p : Params) (σ : Signature) (polys : List (List ℕ)) : Type 0 where
  pub number : length polys ≡ polys_of_brief σ (digit_rows p.q p.digit_bits)
  pub fit : All (IsPoly p.q p.n) polys

pub record HasCipher (p : Params) (held : Option Cipher) : Type 0 where
  pub there : is_some held ≡ true
  pub fits : CipherFits p.q p.n (cipher_or held)

-- a plaintext that may be there
abbrev pub plain_or : Option (List ℕ) → List ℕ
plain_or None = []
plain_or (Some value) = value

pub record HasPlain (p : Params) (held : Option (List ℕ)) : Type 0 where
  pub there : is_some held ≡ true
  pub fits : IsPoly p.t p.n (plain_or held)

pub record Holds (p : Params) (s : State) (h : Store) : Type 0 where
  pub told : (id : ℕ) (i : Instance) → instance s.instances id ≡ Some i → IsLive i → AreTold p i.signature (held_polys h id)
  pub inputs : (c k : ℕ) → is_given s c k ≡ true → HasCipher p (held_input h c k)
  pub outputs : (c : ℕ) → c < length s.circuits → is_settled (circuit s.circuits c) ≡ true → HasCipher p (held_output h c)
  pub answers : (c : ℕ) → c < length s.circuits → circuit s.circuits c ≡ Answered → HasPlain p (held_answer h c)
