-- What makes a list of nodes a circuit, and what is asked of one.
use Rattle.std.specs.Prelude.{ℕ, ◌+◌, ◌*◌, ◌%◌, Bool, true, false, not, ◌&&◌, nat_eq, nat_le, nat_lt, if◌then◌else◌, List, [], ◌∷◌, length, Option, Some, None}
use Rattle.std.specs.List.{slice_get, list_all, list_any}
use Rattle.circuit_form.specs.declared.node.Node.{Node}
use Rattle.circuit_form.specs.declared.node.Node.TheVariants.{Input, Const, Add, Sub, Neg, Mul, Rot}

-- ---- the rules

-- whether a list is n coefficients below t
abbrev pub fits : ℕ → ℕ → List ℕ → Bool
fits n t value = nat_eq (length value) n && list_all (λ x. nat_lt x t) value

-- whether a node may stand at place k, for polynomials of n coefficients modulo t and so many parties:
-- its operands are earlier nodes, its owner is a party, its rotation is an odd number from 3 to 2n - 1
unfoldable pub may_stand : ℕ → ℕ → ℕ → ℕ → Node → Bool
may_stand n t parties k (Input owner) = nat_le 1 owner && nat_le owner parties
may_stand n t parties k (Const value) = fits n t value
may_stand n t parties k (Add left right) = nat_lt left k && nat_lt right k
may_stand n t parties k (Sub left right) = nat_lt left k && nat_lt right k
may_stand n t parties k (Neg of) = nat_lt of k
may_stand n t parties k (Mul left right) = nat_lt left k && nat_lt right k
may_stand n t parties k (Rot g of) = nat_eq (g % 2) 1 && nat_le 3 g && nat_lt g (2 * n) && nat_lt of k

-- of nodes that stand from place k on, the place of the first that may not stand there
unfoldable pub first_wrong : ℕ → ℕ → ℕ → ℕ → List Node → Option ℕ
first_wrong n t parties k [] = None
first_wrong n t parties k (node ∷ rest) =
    if may_stand n t parties k node then first_wrong n t parties (k + 1) rest else Some k

-- the node at fault in a list: 0 where there is none, 256 where there are more than 256, else the first
-- that may not stand; nothing where the list is a circuit
unfoldable pub first_fault : ℕ → ℕ → ℕ → List Node → Option ℕ
first_fault n t parties nodes =
    if nat_eq (length nodes) 0 then Some 0
    else if nat_lt 256 (length nodes) then Some 256
    else first_wrong n t parties 0 nodes

-- ---- what is asked of a circuit

-- the owners of the inputs, in the order of their nodes
unfoldable pub owners : List Node → List ℕ
owners [] = []
owners (Input owner ∷ rest) = owner ∷ owners rest
owners (Const value ∷ rest) = owners rest
owners (Add left right ∷ rest) = owners rest
owners (Sub left right ∷ rest) = owners rest
owners (Neg of ∷ rest) = owners rest
owners (Mul left right ∷ rest) = owners rest
owners (Rot g of ∷ rest) = owners rest

-- whether there is a constant at a place
abbrev pub is_const : Option Node → Bool
is_const None = false
is_const (Some (Input owner)) = false
is_const (Some (Const value)) = true
is_const (Some (Add left right)) = false
is_const (Some (Sub left right)) = false
is_const (Some (Neg of)) = false
is_const (Some (Mul left right)) = false
is_const (Some (Rot g of)) = false

-- whether a node is a full product, that is one of two nodes neither of which is a constant
abbrev pub is_full : List Node → Node → Bool
is_full nodes (Input owner) = false
is_full nodes (Const value) = false
is_full nodes (Add left right) = false
is_full nodes (Sub left right) = false
is_full nodes (Neg of) = false
is_full nodes (Mul left right) = not (is_const (slice_get nodes left)) && not (is_const (slice_get nodes right))
is_full nodes (Rot g of) = false

-- whether a node is the rotation by g
abbrev pub is_turn : ℕ → Node → Bool
is_turn g (Input owner) = false
is_turn g (Const value) = false
is_turn g (Add left right) = false
is_turn g (Sub left right) = false
is_turn g (Neg of) = false
is_turn g (Mul left right) = false
is_turn g (Rot h of) = nat_eq h g

-- whether some node is a full product, and whether some node is the rotation by g
abbrev pub has_product : List Node → Bool
has_product nodes = list_any (is_full nodes) nodes

abbrev pub has_rot : ℕ → List Node → Bool
has_rot g nodes = list_any (is_turn g) nodes
