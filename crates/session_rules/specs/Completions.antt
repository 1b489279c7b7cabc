-- Which circuits are answered.
use Rattle.std.specs.Prelude.{◌≡◌, ℕ, ◌<◌, List, length}
use Rattle.std.specs.List.{Contains}
use Rattle.proto_names.specs.declared.signature.Signature.TheVariants.{Dec}
use Rattle.proto_names.specs.declared.instance.Instance.{Instance}
use Rattle.proto_names.specs.declared.instance.Stage.TheVariants.{Complete}
use Rattle.session_rules.specs.declared.call.Entry.{Entry}
use Rattle.session_rules.specs.declared.state.CircuitState.TheVariants.{Answered}
use Rattle.session_rules.specs.declared.fixed.Fixed.{Fixed}
use Rattle.session_rules.specs.States.{State, circuit}
use Rattle.session_rules.specs.Histories.{state_after}
use Rattle.session_rules.specs.Grounds.{IsWhole}

-- the complete decryption of a circuit
pub record HasDecryption (s : State) (c : ℕ) : Type 0 where
  pub decryption : Instance
  pub issued : Contains s.instances decryption
  pub signature : decryption.signature ≡ Dec c
  pub complete : decryption.stage ≡ Complete

-- each circuit that is answered has one
abbrev pub AnsweredOnesAreDecrypted : Type 0
AnsweredOnesAreDecrypted =
    (f : Fixed) (es : List Entry) (c : ℕ) → IsWhole f → c < length f.plans → circuit (state_after f es).circuits c ≡ Answered
    → HasDecryption (state_after f es) c
