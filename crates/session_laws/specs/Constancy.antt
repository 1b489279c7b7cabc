-- What stays the same for a party and a circuit in every longer history.
use Rattle.std.specs.Prelude.{◌≡◌, ℕ, ◌++◌, true, List, Some}
use Rattle.draw_spec.specs.Places.{Seed}
use Rattle.cipher_spec.specs.Keys.{Keys}
use Rattle.proto_names.specs.Roles.{role_of}
use Rattle.proto_names.specs.Instances.{instance}
use Rattle.proto_names.specs.declared.signature.Signature.TheVariants.{Pk}
use Rattle.proto_names.specs.declared.instance.Instance.{Instance}
use Rattle.session_rules.specs.declared.call.Entry.{Entry}
use Rattle.session_rules.specs.States.{State, is_given, has_done}
use Rattle.session_rules.specs.Steps.{ready}
use Rattle.session_rules.specs.Facts.{Kept, IsLater}
use Rattle.session_rules.specs.Grounds.{Grounded}
use Rattle.session_rules.specs.Histories.{state_after}
use Rattle.session_spec.specs.Settings.{Setting, rules}
use Rattle.session_spec.specs.Outputs.{key_in, keys_in, input_of, inputs_of, output_of, polys_of, share_of}

-- a state that calls lead to, and a later one
pub record LeadsOn (w : Setting) (s t : State) : Type 0 where
  pub kept : Kept (rules w) s
  pub grounded : Grounded (rules w) s
  pub kept_later : Kept (rules w) t
  pub later : IsLater s t

-- such are the states after a history and after a longer one
abbrev pub HistoriesLeadOn : Type 0
HistoriesLeadOn =
    (w : Setting) (es more : List Entry) → LeadsOn w (state_after (rules w) es) (state_after (rules w) (es ++ more))

-- a public key that is complete is the same later
abbrev pub KeyStays : Type 0
KeyStays =
    (w : Setting) (seeds : List Seed) (s t : State) → LeadsOn w s t → has_done Pk s.instances ≡ true
    → key_in w seeds s.instances ≡ key_in w seeds t.instances

-- an input that is given has the same encryption later
abbrev pub InputsStay : Type 0
InputsStay =
    (w : Setting) (seeds : List Seed) (s t : State) (c k : ℕ) → LeadsOn w s t → is_given s c k ≡ true
    → input_of w seeds (key_in w seeds s.instances) c k ≡ input_of w seeds (key_in w seeds t.instances) c k

-- what is defined for a circuit under its keys: the encryptions of its inputs, the keys of its products and rotations,
-- and its output
pub record IsSameCircuit (w : Setting) (seeds : List Seed) (keys now : Keys) (c : ℕ) : Type 0 where
  pub inputs : inputs_of w seeds keys.public c ≡ inputs_of w seeds now.public c
  pub relin : keys.relin ≡ now.relin
  pub rotations : keys.rotations ≡ now.rotations
  pub output : output_of w seeds keys c ≡ output_of w seeds now c

-- a circuit that is ready has the same ones later, whether or not it is begun by then
abbrev pub ReadyOnesStay : Type 0
ReadyOnesStay =
    (w : Setting) (seeds : List Seed) (s t : State) (c : ℕ) → LeadsOn w s t → ready (rules w) s c ≡ true
    → IsSameCircuit w seeds (keys_in w seeds s.instances c) (keys_in w seeds t.instances c) c

-- what is defined for an instance under the circuits' keys, and for the same one later under others: what its parties'
-- shares are made from, and the share of each
pub record IsSameInstance (w : Setting) (seeds : List Seed) (keys now : ℕ → Keys) (i later : Instance) : Type 0 where
  pub polys : polys_of w seeds keys (role_of i) ≡ polys_of w seeds now (role_of later)
  pub shares : (j : ℕ) → share_of w seeds keys i j ≡ share_of w seeds now later j

-- an instance that is issued has the same ones later under its number, also where it is void by then, or already
abbrev pub IssuedOnesStay : Type 0
IssuedOnesStay =
    (w : Setting) (seeds : List Seed) (s t : State) (id : ℕ) (i : Instance)
    → LeadsOn w s t → instance s.instances id ≡ Some i
    → (now : Instance) × (instance t.instances id ≡ Some now)
    × IsSameInstance w seeds (keys_in w seeds s.instances) (keys_in w seeds t.instances) i now
