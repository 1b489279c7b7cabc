-- A walk over the nodes of a circuit: one place further.
use Rattle.std.proofs.Common.{◌≡◌, ℕ, suc, ◌+◌, List, [], ◌∷◌, ◌++◌, length, drop, Some, ap, sym, add-one, drop-cons}
use Rattle.std.specs.List.{slice_get}
use Rattle.std.proofs.lemmas.Option.{slice_get_within, get_or_from_slice_get}
use Rattle.ring_spec.specs.Pairs.{Cipher}
use Rattle.circuit_form.specs.declared.node.Node.{Node}
use Rattle.circuit_form.specs.Circuits.{owners}
use Rattle.circuit_form.specs.Values.{given_after}
use Rattle.circuit_form.proofs.Steps.{enough_past}
use Rattle.param_set.specs.Numbers.{Numbers}
use Rattle.cipher_spec.specs.Keys.{Keys}
use Rattle.cipher_spec.specs.Ciphers.{node_cipher, ciphers_from}

-- the nodes from a place on are the node there and the rest
item_first : (nodes : List Node) (k : ℕ) (node : Node) → slice_get nodes k ≡ Some node → drop k nodes ≡ node ∷ drop (k + 1) nodes
item_first nodes k node at =
    rw (add-one, drop-cons nodes k node (slice_get_within nodes k node at)) (ap (λ (x : Node). x ∷ drop (suc k) nodes) (get_or_from_slice_get nodes k node node at))

-- the inputs passed and those that are left are all inputs
pub enough_next : (given k all : ℕ) (nodes : List Node) (node : Node) → slice_get nodes k ≡ Some node → given + length (owners (drop k nodes)) ≡ all → given_after given node + length (owners (drop (k + 1) nodes)) ≡ all
enough_next given k all nodes node at s =
    enough_past given k all nodes node (slice_get_within nodes k node at) (sym (get_or_from_slice_get nodes k node node at)) s

-- the ciphertexts of all nodes, with that of the node at a place behind those done
pub ciphers_past : (p : Numbers) (keys : Keys) (inputs : List Cipher) (nodes : List Node) (done : List Cipher) (given k : ℕ) (node : Node) → slice_get nodes k ≡ Some node → ciphers_from p keys inputs nodes (done ++ node_cipher p keys inputs nodes done given node ∷ []) (given_after given node) (drop (k + 1) nodes) ≡ ciphers_from p keys inputs nodes done given (drop k nodes)
unfolding ciphers_from
ciphers_past p keys inputs nodes done given k node at =
    ap (ciphers_from p keys inputs nodes done given) (sym (item_first nodes k node at))
