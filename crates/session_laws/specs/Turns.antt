-- What a caller may bring by what it has seen, it may bring when its turn comes.
use Rattle.std.specs.Prelude.{◌≡◌, ℕ, true, List, Some}
use Rattle.ring_spec.specs.Pairs.{Cipher}
use Rattle.proto_names.specs.Instances.{instance}
use Rattle.proto_names.specs.declared.signature.Signature.TheVariants.{Pk}
use Rattle.proto_names.specs.declared.instance.Instance.{Instance}
use Rattle.session_rules.specs.States.{State, circuit, has_done}
use Rattle.session_rules.specs.Facts.{is_begun}
use Rattle.session_spec.specs.Settings.{Setting}
use Rattle.session_spec.specs.Outputs.{key_in, keys_in, input_of, output_of}
use Rattle.session_spec.specs.Honesty.{BringsShare, BringsInput, BringsOutput}
use Rattle.session_laws.specs.Constancy.{LeadsOn}

-- what is asked of the content of a call at the state t holds where it was read at the state s: a share for an instance
-- that was issued, also where it is void or complete by then; an input, encrypted under the key that was complete; and
-- the output of a circuit that was begun
pub record ContentStands (w : Setting) (seeds : List (List ℕ)) (s t : State) : Type 0 where
  pub share : (id p : ℕ) (rows : List (List ℕ)) (i : Instance) → instance s.instances id ≡ Some i
      → BringsShare w seeds s id p rows → BringsShare w seeds t id p rows
  pub input : (c k : ℕ) (ct : Cipher) → has_done Pk s.instances ≡ true
      → ct ≡ input_of w seeds (key_in w seeds s.instances) c k → BringsInput w seeds t c k ct
  pub output : (who c : ℕ) (ct : Cipher) → is_begun (circuit s.circuits c) ≡ true
      → ct ≡ output_of w seeds (keys_in w seeds s.instances c) c → BringsOutput w seeds t who c ct

-- so it is at every later state, whatever is called in between and by whom
abbrev pub ContentStandsOn : Type 0
ContentStandsOn = (w : Setting) (seeds : List (List ℕ)) (s t : State) → LeadsOn w s t → ContentStands w seeds s t
