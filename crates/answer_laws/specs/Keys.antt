-- The public key of a session belongs to the secret that its parties hold.
use Rattle.std.specs.Prelude.{◌≡◌, ℕ, ◌*◌, List, Some}
use Rattle.draw_spec.specs.Places.{Seed}
use Rattle.bfv_spec.specs.Scheme.{IsPublicKey}
use Rattle.param_set.specs.declared.params.Params.{Params}
use Rattle.param_set.specs.Numbers.{numbers_of}
use Rattle.share_spec.specs.Seeds.{secret}
use Rattle.proto_names.specs.Roles.{Role}
use Rattle.proto_names.specs.declared.signature.Signature.TheVariants.{Pk}
use Rattle.proto_names.specs.declared.instance.Instance.{Instance}
use Rattle.session_rules.specs.States.{State}
use Rattle.session_rules.specs.Facts.{Kept}
use Rattle.session_spec.specs.Settings.{Setting, rules}
use Rattle.session_spec.specs.Shares.{key_of}
use Rattle.session_spec.specs.Outputs.{key_instance, key_in}
use Rattle.session_laws.specs.Laws.{ActsWithin}

-- the public key that the complete sums of honest shares make, where their parties act within a threshold T of the
-- ledger: p0 + p1 * s is a noise of size at most T * B, s being the sum of all parties' secrets
abbrev pub KeysBelong : Type 0
KeysBelong =
    (p : Params) (w : Setting) (threshold : ℕ) (seeds : List Seed) (role : Role)
    → w.numbers ≡ numbers_of p → role.signature ≡ Pk → ActsWithin w threshold role
    → IsPublicKey p.q p.n (secret p.q p.n seeds) (threshold * p.err) (key_of w seeds role)

-- so is the key of a state that has one, T being that of the parameters
abbrev pub HeldKeysBelong : Type 0
HeldKeysBelong =
    (p : Params) (w : Setting) (seeds : List Seed) (s : State) (i : Instance)
    → w.numbers ≡ numbers_of p → Kept (rules w) s → key_instance s.instances ≡ Some i
    → IsPublicKey p.q p.n (secret p.q p.n seeds) (p.threshold * p.err) (key_in w seeds s.instances)
