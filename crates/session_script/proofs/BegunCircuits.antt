-- What is kept of a circuit that has begun: its nodes stand, and it has one fitting value for each input.
use Rattle.std.proofs.Common.{◌≡◌, ℕ, suc, ◌+◌, ◌-◌, ◌<◌, ◌≤◌, Bool, true, false, cond, ◌&&◌, List, [], ◌∷◌, ◌++◌, length, replicate, All, Option, Some, None, IfOk, refl, ap, subst, arith, lt-ltb, nat_eq, nat_le, nat_lt, leb-true, ltb-true}
use Rattle.std.specs.List.{list_all}
use Rattle.std.proofs.lemmas.List.{length-append, length-replicate}
use Rattle.std.proofs.lemmas.List.Elements.{All-append, All-replicate, All-cons, All-nil}
use Rattle.std.proofs.lemmas.List.Sums.{AllPass-from_list_all, list_all-from_AllPass}
use Rattle.ring_spec.specs.Ring.{IsPoly}
use Rattle.circuit_form.specs.declared.node.Node.{Node}
use Rattle.circuit_form.specs.declared.node.Node.TheVariants as node
use Rattle.circuit_form.specs.Circuits.{fits, may_stand, first_wrong, first_fault, owners}
use Rattle.session_script.specs.declared.reason.Reason.TheVariants as reason
use Rattle.session_script.specs.declared.place.OpenCircuit.{OpenCircuit}
use Rattle.session_script.specs.Asked.{Numbers}
use Rattle.session_script.specs.CircuitLines.{is_name, filled, plain, is_circuit, with_node}
use Rattle.session_script.proofs.Chains.{chosen, both}

-- of a circuit that has begun
pub record IsBegun (numbers : Numbers) (begun : OpenCircuit) : Type 0 where
  pub name : is_name begun.name ≡ true
  pub count : length begun.values ≡ length (owners begun.nodes)
  pub values : All (IsPoly numbers.t numbers.n) begun.values
  pub few : length begun.nodes ≤ 256
  pub stand : first_wrong numbers.n numbers.t numbers.parties 0 begun.nodes ≡ None

-- each coefficient that passes a test keeps it
all-below : (t : ℕ) (xs : List ℕ) → list_all (λ x. nat_lt x t) xs ≡ true → All (λ x. x < t) xs
all-below t xs e = λ k d inside. ltb-true _ t (AllPass-from_list_all (λ x. nat_lt x t) xs e k d inside)

-- filled up, the coefficients are a polynomial
pub IsPoly-filled : (n t : ℕ) (xs : List ℕ) → 0 < t → length xs ≤ n → All (λ x. x < t) xs → IsPoly t n (filled n xs)
IsPoly-filled n t xs positive short below = record {
  entries = omega (arith, length-append xs (replicate (n - length xs) 0), length-replicate {A = ℕ} (n - length xs) 0);
  below = All-append (λ x. x < t) xs (replicate (n - length xs) 0) below (All-replicate (λ x. x < t) (n - length xs) 0 positive);
}

pub plain-fits : (numbers : Numbers) (coeffs : List ℕ) → 0 < numbers.t → IfOk (plain numbers coeffs) (IsPoly numbers.t numbers.n)
unfolding plain
plain-fits numbers coeffs some =
    chosen (IsPoly numbers.t numbers.n) (nat_le (length coeffs) numbers.n && list_all (λ x. nat_lt x numbers.t) coeffs) (filled numbers.n coeffs) reason.Node (λ passed.
    let tests = both (nat_le (length coeffs) numbers.n) (list_all (λ x. nat_lt x numbers.t) coeffs) passed in
    IsPoly-filled numbers.n numbers.t coeffs some (leb-true (length coeffs) numbers.n tests.0) (all-below numbers.t coeffs tests.1))

-- the owners of a node more
pub owners-append : (nodes : List Node) (added : Node) → owners (nodes ++ added ∷ []) ≡ owners nodes ++ owners (added ∷ [])
unfolding owners
owners-append [] added = refl
owners-append (node.Input owner ∷ rest) added = ap (λ os. owner ∷ os) (owners-append rest added)
owners-append (node.Const value ∷ rest) added = owners-append rest added
owners-append (node.Add left right ∷ rest) added = owners-append rest added
owners-append (node.Sub left right ∷ rest) added = owners-append rest added
owners-append (node.Neg of ∷ rest) added = owners-append rest added
owners-append (node.Mul left right ∷ rest) added = owners-append rest added
owners-append (node.Rot g of ∷ rest) added = owners-append rest added

-- where a list of nodes stands, so does its first, and the rest
first_stands : (b : Bool) (rest : Option ℕ) (k : ℕ) → cond b rest (Some k) ≡ None → (b ≡ true) × (rest ≡ None)
first_stands true rest k e = (refl, e)
first_stands false rest k e = (cc, cc)

-- a node that may stand behind nodes that do
first_wrong-append : (n t parties k : ℕ) (nodes : List Node) (added : Node) → first_wrong n t parties k nodes ≡ None → may_stand n t parties (k + length nodes) added ≡ true → first_wrong n t parties k (nodes ++ added ∷ []) ≡ None
unfolding first_wrong
first_wrong-append n t parties k [] added e stands =
    let place : ◌≡◌ {A = ℕ} (k + 0) k = omega arith in
    let here = subst (λ (m : ℕ). may_stand n t parties m added ≡ true) place stands in
    rw here refl
first_wrong-append n t parties k (node ∷ rest) added e stands =
    let parts = first_stands (may_stand n t parties k node) (first_wrong n t parties (k + 1) rest) k e in
    let place : ◌≡◌ {A = ℕ} (k + suc (length rest)) (k + 1 + length rest) = omega arith in
    let behind = first_wrong-append n t parties (k + 1) rest added parts.1 (subst (λ (m : ℕ). may_stand n t parties m added ≡ true) place stands) in
    rw parts.0 behind

-- whether a node may stand behind those of a circuit
abbrev pub stands_behind : Numbers → OpenCircuit → Node → Bool
stands_behind numbers begun added = may_stand numbers.n numbers.t numbers.parties (length begun.nodes) added

-- one node more stands
all-stand : (numbers : Numbers) (begun : OpenCircuit) (added : Node) → IsBegun numbers begun → stands_behind numbers begun added ≡ true → first_wrong numbers.n numbers.t numbers.parties 0 (begun.nodes ++ added ∷ []) ≡ None
all-stand numbers begun added b stands =
    let place : ◌≡◌ {A = ℕ} (length begun.nodes) (0 + length begun.nodes) = omega arith in
    first_wrong-append numbers.n numbers.t numbers.parties 0 begun.nodes added b.stand (subst (λ (m : ℕ). may_stand numbers.n numbers.t numbers.parties m added ≡ true) place stands)

-- an input more, and its value
pub input-begun : (numbers : Numbers) (begun : OpenCircuit) (owner : ℕ) (value : List ℕ) → IsBegun numbers begun → length begun.nodes < 256 → stands_behind numbers begun (node.Input owner) ≡ true → IsPoly numbers.t numbers.n value → IsBegun numbers (record (with_node begun (node.Input owner)) { values = begun.values ++ value ∷ [] })
unfolding owners
input-begun numbers begun owner value b room stands fits = record {
  name = b.name;
  count = omega (arith, b.count, length-append begun.values (value ∷ []), ap length (owners-append begun.nodes (node.Input owner)), length-append (owners begun.nodes) (owner ∷ []));
  values = All-append (IsPoly numbers.t numbers.n) begun.values (value ∷ []) b.values (All-cons (IsPoly numbers.t numbers.n) value [] fits (All-nil (IsPoly numbers.t numbers.n)));
  few = omega (arith, room, length-append begun.nodes (node.Input owner ∷ []));
  stand = all-stand numbers begun (node.Input owner) b stands;
}

-- a node that is no input, and may stand
pub record IsOther (numbers : Numbers) (begun : OpenCircuit) (added : Node) : Type 0 where
  pub no_owner : owners (added ∷ []) ≡ []
  pub room : length begun.nodes < 256
  pub stands : stands_behind numbers begun added ≡ true

pub other-begun : (numbers : Numbers) (begun : OpenCircuit) (added : Node) → IsBegun numbers begun → IsOther numbers begun added → IsBegun numbers (with_node begun added)
other-begun numbers begun added b other = record {
  name = b.name;
  count = omega (arith, b.count, ap length (owners-append begun.nodes added), length-append (owners begun.nodes) (owners (added ∷ [])), ap length other.no_owner);
  values = b.values;
  few = omega (arith, other.room, length-append begun.nodes (added ∷ []));
  stand = all-stand numbers begun added b other.stands;
}

-- a polynomial is a constant that may stand
pub poly-fits : (n t : ℕ) (value : List ℕ) → IsPoly t n value → fits n t value ≡ true
poly-fits n t value poly =
    let long : nat_eq (length value) n ≡ true = grind (arith, poly.entries) in
    let below : list_all (λ x. nat_lt x t) value ≡ true = list_all-from_AllPass (λ x. nat_lt x t) value (λ k d inside. lt-ltb _ t (poly.below k d inside)) in
    rw (long, below) refl

-- nodes that stand are a circuit, if there is one: so only the lack of any makes `end` a wrong node
pub only_empty : (numbers : Numbers) (begun : OpenCircuit) → IsBegun numbers begun → 0 < length begun.nodes → is_circuit numbers begun.nodes ≡ true
unfolding first_fault
only_empty numbers begun b some =
    let none : nat_eq (length begun.nodes) 0 ≡ false = grind (arith, some) in
    let short : nat_lt 256 (length begun.nodes) ≡ false = grind (arith, b.few) in
    rw (none, short, b.stand) refl
