-- What the names of protocols and the stages of their instances tell.
use Rattle.std.specs.Prelude.{ℕ, ◌*◌, Bool, true, false, nat_eq, ◌&&◌}
use Rattle.proto_names.specs.declared.signature.Signature.{Signature}
use Rattle.proto_names.specs.declared.signature.Signature.TheVariants.{Pk, Rlk1, Rlk2, Rot, Dec}
use Rattle.proto_names.specs.declared.instance.Stage.{Stage}
use Rattle.proto_names.specs.declared.instance.Stage.TheVariants.{Opened, Complete, Void}

-- ---- signatures: a protocol, and what it is for

-- the place of the protocol in the order in which they are issued
abbrev pub kind : Signature → ℕ
kind Pk = 0
kind Rlk1 = 1
kind Rlk2 = 2
kind (Rot g) = 3
kind (Dec circuit) = 4

-- the rotation or the circuit that it is for
abbrev pub subject : Signature → ℕ
subject Pk = 0
subject Rlk1 = 0
subject Rlk2 = 0
subject (Rot g) = g
subject (Dec circuit) = circuit

-- whether two signatures are the same
unfoldable pub same : Signature → Signature → Bool
same a b = nat_eq (kind a) (kind b) && nat_eq (subject a) (subject b)

-- the number of polynomials in a share, for l rows of the gadget
unfoldable pub rows_of : Signature → ℕ → ℕ
rows_of Pk l = 1
rows_of Rlk1 l = 2 * l
rows_of Rlk2 l = 2 * l
rows_of (Rot g) l = l
rows_of (Dec circuit) l = 1

-- the number of polynomials that its shares are made from: the sums of the first round for the second one,
-- the second part of the ciphertext for a decryption
abbrev pub polys_of_brief : Signature → ℕ → ℕ
polys_of_brief Pk l = 0
polys_of_brief Rlk1 l = 0
polys_of_brief Rlk2 l = 2 * l
polys_of_brief (Rot g) l = 0
polys_of_brief (Dec circuit) l = 1

-- ---- stages

abbrev pub is_opened : Stage → Bool
is_opened Opened = true
is_opened Complete = false
is_opened (Void by) = false

abbrev pub is_complete : Stage → Bool
is_complete Opened = false
is_complete Complete = true
is_complete (Void by) = false

abbrev pub is_void : Stage → Bool
is_void Opened = false
is_void Complete = false
is_void (Void by) = true
