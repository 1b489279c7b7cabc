-- What instances keep: the lists that go by their roles stay as they were where each keeps its role, whether
-- one is given up, has a share counted, or lacks the share of a party that is lost.
use Rattle.std.proofs.Common.{◌≡◌, ℕ, ◌∙◌, List, [], ◌∷◌, map, length, ap, sym, refl, arith}
use Rattle.std.specs.Prelude.{Bool}
use Rattle.std.specs.List.{count_by}
use Rattle.std.proofs.lemmas.List.{length-map}
use Rattle.std.proofs.lemmas.Grind.{common_steps}
use Rattle.std.proofs.lemmas.Simd.{map-map}
use Rattle.param_set.specs.Moduli.{digit_rows}
use Rattle.param_set.specs.declared.params.Params.{Params}
use Rattle.proto_names.specs.Names.{same, rows_of}
use Rattle.proto_names.specs.Instances.{id_of, is_of, with_share, given_up, counted_at, lost_by, after_void, after_share, after_lost}
use Rattle.proto_names.specs.declared.signature.Signature.{Signature}
use Rattle.proto_names.specs.declared.instance.Instance.{Instance}
use Rattle.proto_names.specs.Roles.{Role, role_of}
use Rattle.instance_table.specs.Tables.{row_counts}

-- what becomes of one keeps its role
share_role : (id p : ℕ) (i : Instance) → role_of (counted_at id p i) ≡ role_of i
unfolding with_share
share_role id p i = grind arith

void_role : (id by : ℕ) (i : Instance) → role_of (given_up id by i) ≡ role_of i
void_role id by i = grind arith

lost_role : (p : ℕ) (i : Instance) → role_of (lost_by p i) ≡ role_of i
lost_role p i = grind arith

roles_of : (f : Instance → Instance) → ((i : Instance) → role_of (f i) ≡ role_of i) → (is : List Instance) → map role_of (map f is) ≡ map role_of is
roles_of f same [] = refl
roles_of f same (i ∷ is) = let a = same i in let b = roles_of f same is in cc

pub void_roles : (id by : ℕ) (is : List Instance) → map role_of (after_void id by is) ≡ map role_of is
unfolding after_void
void_roles id by is = roles_of (given_up id by) (void_role id by) is

pub share_roles : (id p : ℕ) (is : List Instance) → map role_of (after_share id p is) ≡ map role_of is
unfolding after_share
share_roles id p is = roles_of (counted_at id p) (share_role id p) is

pub lost_roles : (p : ℕ) (is : List Instance) → map role_of (after_lost p is) ≡ map role_of is
unfolding after_lost
lost_roles p is = roles_of (lost_by p) (lost_role p) is

-- what goes by roles
abbrev role_id : Role → ℕ
role_id r = r.id

abbrev role_rows : Params → Role → ℕ
role_rows p r = rows_of r.signature (digit_rows p.q p.digit_bits)

pub ids_kept : (is js : List Instance) → map role_of js ≡ map role_of is → map id_of js ≡ map id_of is
ids_kept is js e = sym (map-map role_id role_of js) ∙ ap (map role_id) e ∙ map-map role_id role_of is

pub row_counts_kept : (p : Params) (is js : List Instance) → map role_of js ≡ map role_of is → map (row_counts p) js ≡ map (row_counts p) is
row_counts_kept p is js e = sym (map-map (role_rows p) role_of js) ∙ ap (map (role_rows p)) e ∙ map-map (role_rows p) role_of is

pub number_kept : (is js : List Instance) → map role_of js ≡ map role_of is → length js ≡ length is
number_kept is js e = sym (length-map js role_of) ∙ ap length e ∙ length-map is role_of

-- how many are of a signature
of_role : Signature → Role → Bool
of_role σ r = same r.signature σ

attempts_by_roles : (σ : Signature) (is : List Instance) → count_by (of_role σ) (map role_of is) ≡ count_by (is_of σ) is
unfolding of_role
attempts_by_roles σ [] = refl
attempts_by_roles σ (i ∷ is) = let rest = attempts_by_roles σ is in grind (arith, common_steps, rest)

pub attempts_kept : (σ : Signature) (is js : List Instance) → map role_of js ≡ map role_of is → count_by (is_of σ) js ≡ count_by (is_of σ) is
attempts_kept σ is js e = sym (attempts_by_roles σ js) ∙ ap (count_by (of_role σ)) e ∙ attempts_by_roles σ is
