-- The keys for key switches that the parties of a session make are keys under the secret that they hold.
use Rattle.std.specs.Prelude.{◌≡◌, ℕ, ◌<◌, true, List, length}
use Rattle.ring_spec.specs.Ring.{ring_product, ring_turned}
use Rattle.draw_spec.specs.Places.{Seed}
use Rattle.param_set.specs.declared.params.Params.{Params}
use Rattle.param_set.specs.Numbers.{numbers_of}
use Rattle.noise_ledger.specs.Bounds.{numbers_for, rotation_noise, relin_noise}
use Rattle.share_spec.specs.Seeds.{secret}
use Rattle.circuit_laws.specs.Switches.{IsKeyUnder, AreKeysFor}
use Rattle.proto_names.specs.Roles.{Role}
use Rattle.proto_names.specs.declared.signature.Signature.TheVariants.{Rlk2, Rot}
use Rattle.session_rules.specs.States.{State, plan}
use Rattle.session_rules.specs.Steps.{has_keys}
use Rattle.session_rules.specs.Facts.{Kept}
use Rattle.session_spec.specs.Settings.{Setting, rules, nodes_at, IsSetting}
use Rattle.session_spec.specs.Shares.{relin_rows, rotation_rows}
use Rattle.session_spec.specs.Outputs.{keys_in}
use Rattle.session_laws.specs.Laws.{ActsWithin}

-- where parties act within a threshold T of the ledger, the sums of their honest shares are a key for the secret with
-- X^g for X, with rows as quiet as the ledger takes them to be
abbrev pub RotationKeysBelong : Type 0
RotationKeysBelong =
    (p : Params) (w : Setting) (threshold : ℕ) (seeds : List Seed) (role : Role) (g : ℕ)
    → w.numbers ≡ numbers_of p → role.signature ≡ Rot g → ActsWithin w threshold role
    → IsKeyUnder p (secret p.q p.n seeds) (ring_turned p.q p.n g (secret p.q p.n seeds)) (rotation_noise (numbers_for p threshold)) (rotation_rows w seeds role)

-- and those of both rounds one for its square
abbrev pub RelinKeysBelong : Type 0
RelinKeysBelong =
    (p : Params) (w : Setting) (threshold : ℕ) (seeds : List Seed) (role : Role)
    → w.numbers ≡ numbers_of p → length seeds ≡ p.parties → role.signature ≡ Rlk2 → ActsWithin w threshold role
    → IsKeyUnder p (secret p.q p.n seeds) (ring_product p.q p.n (secret p.q p.n seeds) (secret p.q p.n seeds)) (relin_noise (numbers_for p threshold)) (relin_rows w seeds role)

-- in a state that calls lead to a circuit that has its keys has keys for it, T being that of the parameters
abbrev pub HeldKeysServe : Type 0
HeldKeysServe =
    (p : Params) (w : Setting) (seeds : List Seed) (s : State) (c : ℕ)
    → IsSetting p w → length seeds ≡ p.parties → Kept (rules w) s → c < length w.offers → has_keys s (plan (rules w) c) ≡ true
    → AreKeysFor p p.threshold (secret p.q p.n seeds) (nodes_at w c) (keys_in w seeds s.instances c)
