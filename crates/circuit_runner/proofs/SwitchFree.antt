-- The nodes of a circuit without key switches: none is a full product, and none is a rotation.
use Rattle.std.proofs.Common.{◌≡◌, ℕ, Bool, true, false, not, ◌+◌, List, Some, true≢false, take, get_or, refl, ap, sym, ◌∙◌}
use Rattle.std.specs.List.{slice_get, list_any}
use Rattle.std.proofs.lemmas.Bool.{and_parts, not-true, false_from_ne_true}
use Rattle.std.proofs.lemmas.Option.{slice_get_within, get_or_from_slice_get}
use Rattle.std.proofs.lemmas.List.Folds.{list_any_more}
use Rattle.std.proofs.lemmas.Map.Keys.{any_passes_from_place}
use Rattle.circuit_form.specs.declared.node.Node.{Node}
use Rattle.circuit_form.specs.Circuits.{is_full, has_product}
use Rattle.cipher_spec.specs.Ciphers.{is_rotation, is_switch_free}

-- where no node passes a test, the node at a place doesn't
fails_at : (test : Node → Bool) (nodes : List Node) (k : ℕ) (node : Node) → list_any test nodes ≡ false → slice_get nodes k ≡ Some node → test node ≡ false
fails_at test nodes k node none at =
    false_from_ne_true (test node) (λ passes. true≢false (sym (any_passes_from_place test nodes k node at passes) ∙ none))

pub not_full : (nodes : List Node) (k : ℕ) (node : Node) → is_switch_free nodes ≡ true → slice_get nodes k ≡ Some node → is_full nodes node ≡ false
unfolding is_switch_free
not_full nodes k node free at =
    fails_at (is_full nodes) nodes k node (not-true _ (and_parts (not (has_product nodes)) (not (list_any is_rotation nodes)) free).0) at

pub no_rotation : (nodes : List Node) (k : ℕ) (node : Node) → is_switch_free nodes ≡ true → slice_get nodes k ≡ Some node → is_rotation node ≡ false
unfolding is_switch_free
no_rotation nodes k node free at =
    fails_at is_rotation nodes k node (not-true _ (and_parts (not (has_product nodes)) (not (list_any is_rotation nodes)) free).1) at

-- where none of the nodes passed is a rotation and the next one isn't, none of those passed then is
pub none_further : (nodes : List Node) (k : ℕ) (node : Node) → slice_get nodes k ≡ Some node → is_rotation node ≡ false → list_any is_rotation (take k nodes) ≡ false → list_any is_rotation (take (k + 1) nodes) ≡ false
none_further nodes k node at other none =
    let here : is_rotation (get_or nodes k node) ≡ false = ap is_rotation (get_or_from_slice_get nodes k node node at) ∙ other in
    list_any_more is_rotation nodes k node (slice_get_within nodes k node at) ∙ rw (none, here) refl
