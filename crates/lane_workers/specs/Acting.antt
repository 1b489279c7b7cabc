-- Those that act in a session.
use Rattle.std.specs.Prelude.{◌≡◌, ℕ, Bool, true, List, map, All, IsSome, Some, ⊤}
use Rattle.std.specs.List.{slice_index_or, range_with_len}
use Rattle.ring_spec.specs.Pairs.{Key, KeyFits}
use Rattle.param_set.specs.declared.params.Params.{Params}
use Rattle.party_roll.specs.declared.party.Party.{Ghosts}
use Rattle.party_roll.specs.declared.placed.Placed.{Placed}
use Rattle.party_roll.specs.Values.{value_in}
use Rattle.proto_names.specs.declared.signature.Signature.TheVariants.{Pk}
use Rattle.session_rules.specs.declared.line.Line.{Line}
use Rattle.session_rules.specs.declared.line.Line.TheVariants as line
use Rattle.session_rules.specs.States.{State, plan, has_done}
use Rattle.session_rules.specs.Steps.{is_input}
use Rattle.session_spec.specs.Settings.{Setting, rules, value_at}
use Rattle.session_spec.specs.Outputs.{key_in}
use Rattle.session_core.specs.Sessions.{Known, IsParty}

-- ---- a party

-- input k of circuit c is one of an admitted circuit, and a party's
pub record Owns (w : Setting) (number c k : ℕ) : Type 0 where
  pub there : is_input (rules w) c k ≡ true
  pub owner : slice_index_or (plan (rules w) c).owners k 0 ≡ number

abbrev pub OwnsPlace : Setting → ℕ → ℕ × ℕ → Type 0
OwnsPlace w number place = Owns w number place.0 place.1

-- a party that is made for these parameters, and has a value for each of its inputs
pub record CanAct (p : Params) (w : Setting) (own_params : Params) (number : ℕ) (own_values : List Placed) : Type 0 where
  pub params : own_params ≡ p
  pub values : (c k : ℕ) → is_input (rules w) c k ≡ true → slice_index_or (plan (rules w) c).owners k 0 ≡ number → IsSome (value_in own_values c k)

-- it tells the parties' seeds, which are these, and has for each of its inputs the circuit's value
pub record IsHonestParty (w : Setting) (seeds : List (List ℕ)) (is_told : Bool) (own_public : List ℕ) (own_seeds : List (List ℕ)) (number : ℕ) (own_values : List Placed) : Type 0 where
  pub tells : is_told ≡ true
  pub public : own_public ≡ w.public
  pub same : own_seeds ≡ seeds
  pub values : (c k : ℕ) → is_input (rules w) c k ≡ true → slice_index_or (plan (rules w) c).owners k 0 ≡ number → value_in own_values c k ≡ Some (value_at w c k)

module _ {P : Type 0} (K : Ghosts P) where
  -- a party of a session: it can act, and is an honest one where the parties' seeds are told
  pub record Acts (k : Known) (p : P) : Type 0 where
    pub able : CanAct k.params k.setting (K.params p) (K.number p) (K.values p)
    pub honest : k.tells ≡ true → IsHonestParty k.setting k.seeds (K.tells p) (K.public p) (K.seeds p) (K.number p) (K.values p)

  -- all parties of a session, in the order of their numbers
  pub record AreParties (k : Known) (parties : List P) : Type 0 where
    pub numbers : map K.number parties ≡ range_with_len 1 k.params.parties
    pub each : All (Acts k) parties

-- ---- a key

-- a key under which inputs may be encrypted: a public key is complete, and where the seeds are told this is it
pub record IsKey (k : Known) (s : State) (key : Key) : Type 0 where
  pub complete : has_done Pk s.instances ≡ true
  pub fits : KeyFits k.params.q k.params.n key
  pub honest : k.tells ≡ true → key ≡ key_in k.setting k.seeds s.instances

-- ---- a lane

-- the party that a line names, if it does, is one of n
abbrev pub IsLine : ℕ → Line → Type 0
IsLine n (line.Join p) = IsParty n p
IsLine n (line.Lose p) = IsParty n p
IsLine n (line.Send p) = IsParty n p
IsLine n (line.Hold p id) = IsParty n p
IsLine n other = ⊤

abbrev pub IsLane : ℕ → List Line → Type 0
IsLane n lane = All (IsLine n) lane

abbrev pub AreLanes : ℕ → List (List Line) → Type 0
AreLanes n lanes = All (IsLane n) lanes
