-- A walk over the nodes of a circuit: what holds from a place on, and one place further.
use Rattle.std.proofs.Common.{◌≡◌, ℕ, zero, suc, ◌+◌, ◌<◌, Bool, true, false, List, [], ◌∷◌, ◌++◌, length, get_or, drop, refl, sym, ap, ◌∙◌, subst, add-one, arith, drop-cons}
use Rattle.std.specs.Prelude.{Option, Some, None, IfNone, ◌||◌}
use Rattle.std.specs.List.{list_any}
use Rattle.circuit_form.specs.declared.node.Node.{Node}
use Rattle.circuit_form.specs.declared.node.Node.TheVariants.{Input, Const, Add, Sub, Neg, Mul, Rot}
use Rattle.circuit_form.specs.Circuits.{may_stand, first_wrong, owners}
use Rattle.circuit_form.proofs.Standing.{rest_chosen}
use Rattle.circuit_form.specs.Products.{is_mul}
use Rattle.circuit_form.specs.Values.{node_value, given_after, values_from}

-- the nodes from a place on are the node there and the rest
item_first : (xs : List Node) (i : ℕ) (x : Node) → i < length xs → x ≡ get_or xs i x → drop i xs ≡ x ∷ drop (i + 1) xs
item_first xs i x h e = rw (add-one, drop-cons xs i x) (ap (λ (y : Node). y ∷ drop (suc i) xs) (sym e))

wrong_more : (n t parties k : ℕ) (node : Node) (rest : List Node) → first_wrong n t parties k (node ∷ rest) ≡ None → (may_stand n t parties k node ≡ true) × (first_wrong n t parties (k + 1) rest ≡ None)
unfolding first_wrong
wrong_more n t parties k node rest e =
    rest_chosen (may_stand n t parties k node) (first_wrong n t parties (k + 1) rest) k e

-- where no node is wrong, the node at a place may stand there, and none behind it is wrong
pub stands_at : (n t parties i : ℕ) (nodes : List Node) (node : Node) → i < length nodes → node ≡ get_or nodes i node → first_wrong n t parties i (drop i nodes) ≡ None → may_stand n t parties i node ≡ true
stands_at n t parties i nodes node h e s =
    (wrong_more n t parties i node (drop (i + 1) nodes) (subst (λ (r : List Node). first_wrong n t parties i r ≡ None) (item_first nodes i node h e) s)).0

pub stands_past : (n t parties i : ℕ) (nodes : List Node) (node : Node) → i < length nodes → node ≡ get_or nodes i node → first_wrong n t parties i (drop i nodes) ≡ None → first_wrong n t parties (i + 1) (drop (i + 1) nodes) ≡ None
stands_past n t parties i nodes node h e s =
    (wrong_more n t parties i node (drop (i + 1) nodes) (subst (λ (r : List Node). first_wrong n t parties i r ≡ None) (item_first nodes i node h e) s)).1

-- where no node is a product, the one at a place is none
none_of : (a b : Bool) → (a || b) ≡ false → (a ≡ false) × (b ≡ false)
none_of true b e = (cc, cc)
none_of false b e = (refl, e)

mul_absent : (nodes : List Node) (i : ℕ) (d : Node) → list_any is_mul nodes ≡ false → i < length nodes → is_mul (get_or nodes i d) ≡ false
mul_absent [] i d e h = absurd (omega (arith, h))
mul_absent (x ∷ xs) zero d e h = (none_of (is_mul x) (list_any is_mul xs) e).0
mul_absent (x ∷ xs) (suc i) d e h = mul_absent xs i d (none_of (is_mul x) (list_any is_mul xs) e).1 (omega (arith, h))

pub absent_at : (wide : Option ℕ) (nodes : List Node) (i : ℕ) (node : Node) → i < length nodes → node ≡ get_or nodes i node → IfNone wide (list_any is_mul nodes ≡ false) → IfNone wide (is_mul node ≡ false)
absent_at None nodes i node h e absent = ap is_mul e ∙ mul_absent nodes i node absent h
absent_at (Some n) nodes i node h e absent = absent

-- an input that was passed is one less that is left
owners_more : (given : ℕ) (node : Node) (rest : List Node) → given + length (owners (node ∷ rest)) ≡ given_after given node + length (owners rest)
unfolding owners given_after
owners_more given (Input owner) rest = omega arith
owners_more given (Const value) rest = refl
owners_more given (Add left right) rest = refl
owners_more given (Sub left right) rest = refl
owners_more given (Neg of) rest = refl
owners_more given (Mul left right) rest = refl
owners_more given (Rot g of) rest = refl

pub enough_past : (given i all : ℕ) (nodes : List Node) (node : Node) → i < length nodes → node ≡ get_or nodes i node → given + length (owners (drop i nodes)) ≡ all → given_after given node + length (owners (drop (i + 1) nodes)) ≡ all
enough_past given i all nodes node h e s =
    sym (owners_more given node (drop (i + 1) nodes))
    ∙ subst (λ (r : List Node). given + length (owners r) ≡ all) (item_first nodes i node h e) s

-- the values of all nodes, with that of the node at a place behind those done
pub values_past : (n t : ℕ) (inputs done : List (List ℕ)) (given i : ℕ) (nodes : List Node) (node : Node) → i < length nodes → node ≡ get_or nodes i node → values_from n t inputs (done ++ node_value n t inputs done given node ∷ []) (given_after given node) (drop (i + 1) nodes) ≡ values_from n t inputs done given (drop i nodes)
unfolding values_from
values_past n t inputs done given i nodes node h e =
    ap (values_from n t inputs done given) (sym (item_first nodes i node h e))
