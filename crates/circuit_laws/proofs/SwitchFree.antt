-- The ciphertexts of a circuit that needs no key switch are the same under any keys.
use Rattle.std.proofs.Common.{◌≡◌, ℕ, ◌-◌, true, false, not, List, [], ◌∷◌, ◌++◌, length, refl, ap, ◌∙◌, inl, inr}
use Rattle.std.specs.List.{slice_get, list_any}
use Rattle.std.proofs.lemmas.Bool.{not-true, or_parts, both_ways}
use Rattle.ring_spec.specs.Pairs.{Cipher}
use Rattle.param_set.specs.Numbers.{Numbers}
use Rattle.circuit_form.specs.declared.node.Node.{Node}
use Rattle.circuit_form.specs.declared.node.Node.TheVariants.{Input, Const, Add, Sub, Neg, Mul, Rot}
use Rattle.circuit_form.specs.Circuits.{is_const, is_full, is_turn, has_product, has_rot}
use Rattle.circuit_form.specs.Values.{given_after}
use Rattle.cipher_spec.specs.Keys.{Keys}
use Rattle.cipher_spec.specs.Ciphers.{is_rotation, is_switch_free, cipher_at, product_cipher, node_cipher, ciphers_from, output_cipher}
use Rattle.circuit_laws.specs.SwitchFree.{KeysAreNotUsed, AnyKeysServe, NoFactorsToKeep}
use Rattle.circuit_laws.proofs.Places.{both_pass, one_fails}

-- a product with a constant
product_same : (p : Numbers) (keys others : Keys) (nodes : List Node) (done : List Cipher) (left right : ℕ) → is_full nodes (Mul left right) ≡ false → product_cipher p keys nodes done left right ≡ product_cipher p others nodes done left right
unfolding product_cipher
product_same p keys others nodes done left right full =
    elim (one_fails (is_const (slice_get nodes left)) (is_const (slice_get nodes right)) full) [
      | inl e ↦ rw e refl
      | inr e ↦ rw (e.0, e.1) refl
    ]

-- a node that is neither a rotation nor a full product
node_same : (p : Numbers) (keys others : Keys) (inputs : List Cipher) (nodes : List Node) (done : List Cipher) (given : ℕ) (node : Node) →
    is_full nodes node ≡ false → is_rotation node ≡ false → node_cipher p keys inputs nodes done given node ≡ node_cipher p others inputs nodes done given node
unfolding node_cipher
node_same p keys others inputs nodes done given (Input owner) full turn = refl
node_same p keys others inputs nodes done given (Const value) full turn = refl
node_same p keys others inputs nodes done given (Add left right) full turn = refl
node_same p keys others inputs nodes done given (Sub left right) full turn = refl
node_same p keys others inputs nodes done given (Neg of) full turn = refl
node_same p keys others inputs nodes done given (Mul left right) full turn = product_same p keys others nodes done left right full
node_same p keys others inputs nodes done given (Rot g of) full turn = cc

-- the nodes that are left
rest_same : (p : Numbers) (keys others : Keys) (inputs : List Cipher) (nodes : List Node) (done : List Cipher) (given : ℕ) (rest : List Node) →
    list_any (is_full nodes) rest ≡ false → list_any is_rotation rest ≡ false → ciphers_from p keys inputs nodes done given rest ≡ ciphers_from p others inputs nodes done given rest
unfolding ciphers_from
rest_same p keys others inputs nodes done given [] full turn = refl
rest_same p keys others inputs nodes done given (node ∷ rest) full turn =
    let fulls = or_parts (is_full nodes node) (list_any (is_full nodes) rest) full in
    let turns = or_parts (is_rotation node) (list_any is_rotation rest) turn in
    ap (λ (c : Cipher). ciphers_from p keys inputs nodes (done ++ c ∷ []) (given_after given node) rest) (node_same p keys others inputs nodes done given node fulls.0 turns.0)
    ∙ rest_same p keys others inputs nodes (done ++ node_cipher p others inputs nodes done given node ∷ []) (given_after given node) rest fulls.1 turns.1

pub keys_are_not_used : KeysAreNotUsed
unfolding output_cipher is_switch_free
keys_are_not_used p keys others inputs nodes free =
    let both = both_pass (not (has_product nodes)) (not (list_any is_rotation nodes)) free in
    ap (λ (all : List Cipher). cipher_at all (length nodes - 1))
    (rest_same p keys others inputs nodes [] 0 nodes (not-true (has_product nodes) both.0) (not-true (list_any is_rotation nodes) both.1))

-- ---- keys and factors that aren't asked for

no_product : (nodes : List Node) → is_switch_free nodes ≡ true → has_product nodes ≡ false
unfolding is_switch_free
no_product nodes free = not-true (has_product nodes) (both_pass (not (has_product nodes)) (not (list_any is_rotation nodes)) free).0

-- the rotation by g is a rotation
turn_passes : (g : ℕ) (node : Node) → is_rotation node ≡ false → is_turn g node ≡ false
turn_passes g (Input owner) e = refl
turn_passes g (Const value) e = refl
turn_passes g (Add left right) e = refl
turn_passes g (Sub left right) e = refl
turn_passes g (Neg of) e = refl
turn_passes g (Mul left right) e = refl
turn_passes g (Rot h of) e = cc

no_turn : (g : ℕ) (nodes : List Node) → list_any is_rotation nodes ≡ false → has_rot g nodes ≡ false
no_turn g [] e = refl
no_turn g (node ∷ rest) e =
    let both = or_parts (is_rotation node) (list_any is_rotation rest) e in
    rw (turn_passes g node both.0) (no_turn g rest both.1)

no_rotation : (g : ℕ) (nodes : List Node) → is_switch_free nodes ≡ true → has_rot g nodes ≡ false
unfolding is_switch_free
no_rotation g nodes free = no_turn g nodes (not-true (list_any is_rotation nodes) (both_pass (not (has_product nodes)) (not (list_any is_rotation nodes)) free).1)

pub any_keys_serve : AnyKeysServe
any_keys_serve p threshold s nodes keys free = record {
  rotations = λ g some. absurd (both_ways (has_rot g nodes) (no_rotation g nodes free) some);
  relin = λ some. absurd (both_ways (has_product nodes) (no_product nodes free) some);
  secret = λ some. absurd (both_ways (has_product nodes) (no_product nodes free) some);
}

pub no_factors_to_keep : NoFactorsToKeep
no_factors_to_keep p threshold nodes k free some = absurd (both_ways (has_product nodes) (no_product nodes free) some)
