-- The ciphertext of each node of a circuit, from those of its inputs. After Fan and Vercauteren 2012.
use Rattle.std.specs.Prelude.{ℕ, ◌+◌, ◌-◌, Bool, true, false, not, ◌&&◌, if◌then◌else◌, List, [], ◌∷◌, ◌++◌, length, slice_index_or, Option, Some, None}
use Rattle.std.specs.List.{slice_get, list_any}
use Rattle.ring_spec.specs.Pairs.{Cipher}
use Rattle.bfv_spec.specs.Scheme.{cipher_sum, cipher_difference, cipher_negative, cipher_multiple, trivial}
use Rattle.gadget_spec.specs.Switching.{rotation}
use Rattle.tensor_spec.specs.Tensors.{tensor, relinearisation}
use Rattle.param_set.specs.Numbers.{Numbers}
use Rattle.circuit_form.specs.declared.node.Node.{Node}
use Rattle.circuit_form.specs.declared.node.Node.TheVariants.{Input, Const, Add, Sub, Neg, Mul, Rot}
use Rattle.circuit_form.specs.Circuits.{is_const, has_product}
use Rattle.circuit_form.specs.Values.{given_after}
use Rattle.cipher_spec.specs.Keys.{Keys, gadget_of, rotation_rows}

-- ---- which circuits

-- whether a node is a rotation
abbrev pub is_rotation : Node → Bool
is_rotation (Input owner) = false
is_rotation (Const value) = false
is_rotation (Add left right) = false
is_rotation (Sub left right) = false
is_rotation (Neg of) = false
is_rotation (Mul left right) = false
is_rotation (Rot g of) = true

-- whether no node needs a key switch: there is no rotation, and no product of two nodes neither of which is a
-- constant
unfoldable pub is_switch_free : List Node → Bool
is_switch_free nodes = not (has_product nodes) && not (list_any is_rotation nodes)

-- ---- nodes

-- no ciphertext, which stands for one that isn't there
abbrev pub no_cipher : Cipher
no_cipher = record { c0 = []; c1 = [] }

abbrev pub cipher_at : List Cipher → ℕ → Cipher
cipher_at done k = slice_index_or done k no_cipher

-- the value of the constant at a place
abbrev pub const_of : Option Node → List ℕ
const_of None = []
const_of (Some (Input owner)) = []
const_of (Some (Const value)) = value
const_of (Some (Add left right)) = []
const_of (Some (Sub left right)) = []
const_of (Some (Neg of)) = []
const_of (Some (Mul left right)) = []
const_of (Some (Rot g of)) = []

abbrev pub const_at : List Node → ℕ → List ℕ
const_at nodes k = const_of (slice_get nodes k)

-- a product: with a constant where one of the nodes is one, the right one first; else the tensor of both, relinearised
unfoldable pub product_cipher : Numbers → Keys → List Node → List Cipher → ℕ → ℕ → Cipher
product_cipher p keys nodes done left right =
    if is_const (slice_get nodes right) then cipher_multiple p.q p.n (cipher_at done left) (const_at nodes right)
    else if is_const (slice_get nodes left) then cipher_multiple p.q p.n (cipher_at done right) (const_at nodes left)
    else relinearisation p.q p.n (gadget_of p) keys.relin (tensor p.q p.n p.t (cipher_at done left) (cipher_at done right))

-- the ciphertext of a node among `nodes`: `done` are those of the nodes before it, `given` of which are inputs
unfoldable pub node_cipher : Numbers → Keys → List Cipher → List Node → List Cipher → ℕ → Node → Cipher
node_cipher p keys inputs nodes done given (Input owner) = cipher_at inputs given
node_cipher p keys inputs nodes done given (Const value) = trivial p.q p.n p.t value
node_cipher p keys inputs nodes done given (Add left right) = cipher_sum p.q p.n (cipher_at done left) (cipher_at done right)
node_cipher p keys inputs nodes done given (Sub left right) = cipher_difference p.q p.n (cipher_at done left) (cipher_at done right)
node_cipher p keys inputs nodes done given (Neg of) = cipher_negative p.q p.n (cipher_at done of)
node_cipher p keys inputs nodes done given (Mul left right) = product_cipher p keys nodes done left right
node_cipher p keys inputs nodes done given (Rot g of) =
    rotation p.q p.n (gadget_of p) (rotation_rows keys.rotations g) g (cipher_at done of)

-- the ciphertexts of all nodes, where those of some are done: each next one is put behind them
unfoldable pub ciphers_from : Numbers → Keys → List Cipher → List Node → List Cipher → ℕ → List Node → List Cipher
ciphers_from p keys inputs nodes done given [] = done
ciphers_from p keys inputs nodes done given (node ∷ rest) =
    ciphers_from p keys inputs nodes (done ++ node_cipher p keys inputs nodes done given node ∷ []) (given_after given node) rest

-- the output of a circuit: the ciphertext of its last node
unfoldable pub output_cipher : Numbers → Keys → List Cipher → List Node → Cipher
output_cipher p keys inputs nodes = cipher_at (ciphers_from p keys inputs nodes [] 0 nodes) (length nodes - 1)
