-- The statements of circuits.
use Rattle.std.specs.Prelude.{ℕ, ◌+◌, ◌-◌, ◌*◌, ◌%◌, ◌==◌, ◌&&◌, ◌||◌, nat_lt, nat_le, Bool, false, not, if◌then◌else◌, List, [], ◌∷◌, ◌++◌, length, drop, replicate, codes, is_none, Result, Ok, Err}
use Rattle.std.specs.List.{list_all, list_any}
use Rattle.std.specs.Str.{bytes_eq}
use Rattle.circuit_form.specs.declared.node.Node.{Node}
use Rattle.circuit_form.specs.declared.node.Node.TheVariants as node
use Rattle.circuit_form.specs.Circuits.{first_fault}
use Rattle.session_script.specs.declared.reason.Reason.{Reason}
use Rattle.session_script.specs.declared.reason.Reason.TheVariants as reason
use Rattle.session_script.specs.declared.place.Draft.{Draft}
use Rattle.session_script.specs.declared.place.OpenCircuit.{OpenCircuit}
use Rattle.session_script.specs.declared.place.Place.{Place}
use Rattle.session_script.specs.declared.place.Place.TheVariants as place
use Rattle.session_script.specs.Words.{is_digit}
use Rattle.session_script.specs.Lines.{word_at, leads}
use Rattle.session_script.specs.Checks.{◌>>=◌, unless, number_at, numbers_behind, party}
use Rattle.session_script.specs.Asked.{Numbers, Named}

-- ---- names

-- whether a byte is one of `a` to `z`
abbrev pub is_letter : ℕ → Bool
is_letter b = nat_le 97 b && nat_le b 122

-- whether a byte may stand in a name
abbrev pub is_name_byte : ℕ → Bool
is_name_byte b = is_letter b || is_digit b || (b == 95)

-- whether the first byte is a letter
abbrev pub begins_with_letter : List ℕ → Bool
begins_with_letter [] = false
begins_with_letter (b ∷ rest) = is_letter b

-- whether a word is a name: 1 to 16 bytes, the first a letter
unfoldable pub is_name : List ℕ → Bool
is_name word = nat_le (length word) 16 && begins_with_letter word && list_all is_name_byte word

-- whether a circuit has this name
abbrev pub has_name : List ℕ → Named → Bool
has_name name circuit = bytes_eq circuit.name name

-- `circuit NAME`
unfoldable pub circuit_statement : Draft → List (List ℕ) → Result Place Reason
circuit_statement draft words = do
  _ ← unless (length words == 2) reason.Word
  _ ← unless (nat_lt (length draft.circuits) 64) reason.Limit
  _ ← unless (is_name (word_at words 1)) reason.Name
  _ ← unless (not (list_any (has_name (word_at words 1)) draft.circuits)) reason.Name
  Ok (place.InCircuit draft (record { name = word_at words 1; nodes = []; values = [] }))

-- ---- nodes

-- a circuit with one node more
abbrev pub with_node : OpenCircuit → Node → OpenCircuit
with_node begun added = record begun { nodes = begun.nodes ++ added ∷ [] }

-- whether one more node may stand
abbrev pub has_room : OpenCircuit → Bool
has_room begun = nat_lt (length begun.nodes) 256

-- whether a node stands already
abbrev pub is_earlier : OpenCircuit → ℕ → Bool
is_earlier begun k = nat_lt k (length begun.nodes)

-- a list of numbers, with zeros behind it up to n
abbrev pub filled : ℕ → List ℕ → List ℕ
filled n xs = xs ++ replicate (n - length xs) 0

-- the value with these coefficients: at most n, each below t, and zeros behind them up to n
unfoldable pub plain : Numbers → List ℕ → Result (List ℕ) Reason
plain numbers coeffs =
    if nat_le (length coeffs) numbers.n && list_all (λ x. nat_lt x numbers.t) coeffs
    then Ok (filled numbers.n coeffs)
    else Err reason.Node

-- `input P c0 c1 ..`
unfoldable pub input_statement : Draft → OpenCircuit → List (List ℕ) → Result Place Reason
input_statement draft begun words = do
  _ ← unless (nat_le 3 (length words)) reason.Word
  p ← number_at words 1
  coeffs ← numbers_behind [] (drop 2 words)
  _ ← unless (has_room begun && nat_lt draft.inputs 1024) reason.Limit
  owner ← party draft.frame p
  value ← plain draft.frame coeffs
  Ok (place.InCircuit (record draft { inputs = draft.inputs + 1 }) (record (with_node begun (node.Input owner)) { values = begun.values ++ value ∷ [] }))

-- `const c0 c1 ..`
unfoldable pub const_node : Draft → OpenCircuit → List (List ℕ) → Result Node Reason
const_node draft begun words = do
  _ ← unless (nat_le 2 (length words)) reason.Word
  coeffs ← numbers_behind [] (drop 1 words)
  _ ← unless (has_room begun) reason.Limit
  value ← plain draft.frame coeffs
  Ok (node.Const value)

-- the operands of `add a b`, `sub a b` and `mul a b`
unfoldable pub operands : OpenCircuit → List (List ℕ) → Result (ℕ × ℕ) Reason
operands begun words = do
  _ ← unless (length words == 3) reason.Word
  left ← number_at words 1
  right ← number_at words 2
  _ ← unless (has_room begun) reason.Limit
  _ ← unless (is_earlier begun left && is_earlier begun right) reason.Node
  Ok (left, right)

-- `neg a`
unfoldable pub neg_node : OpenCircuit → List (List ℕ) → Result Node Reason
neg_node begun words = do
  _ ← unless (length words == 2) reason.Word
  of ← number_at words 1
  _ ← unless (has_room begun) reason.Limit
  _ ← unless (is_earlier begun of) reason.Node
  Ok (node.Neg of)

-- whether a rotation is used already
abbrev pub is_used : List ℕ → ℕ → Bool
is_used turns g = list_any (λ h. h == g) turns

-- whether it is, or one more may be
abbrev pub may_turn : Draft → ℕ → Bool
may_turn draft g = is_used draft.turns g || nat_lt (length draft.turns) 16

-- the rotations with this one
abbrev pub with_turn : List ℕ → ℕ → List ℕ
with_turn turns g = if is_used turns g then turns else turns ++ g ∷ []

-- whether g is odd and from 3 to 2n - 1
abbrev pub is_turn : Numbers → ℕ → Bool
is_turn numbers g = (g % 2 == 1) && nat_le 3 g && nat_lt g (2 * numbers.n)

-- `rot g a`
unfoldable pub rot_statement : Draft → OpenCircuit → List (List ℕ) → Result Place Reason
rot_statement draft begun words = do
  _ ← unless (length words == 3) reason.Word
  g ← number_at words 1
  of ← number_at words 2
  _ ← unless (has_room begun && may_turn draft g) reason.Limit
  _ ← unless (is_turn draft.frame g && is_earlier begun of) reason.Node
  Ok (place.InCircuit (record draft { turns = with_turn draft.turns g }) (with_node begun (node.Rot g of)))

-- a node that changes its circuit alone
unfoldable pub other_node : Draft → OpenCircuit → List (List ℕ) → Result Node Reason
other_node draft begun words =
    if leads (codes "const") words then const_node draft begun words
    else if leads (codes "neg") words then neg_node begun words
    else if leads (codes "add") words then operands begun words >>= (λ ab. Ok (node.Add ab.0 ab.1))
    else if leads (codes "sub") words then operands begun words >>= (λ ab. Ok (node.Sub ab.0 ab.1))
    else if leads (codes "mul") words then operands begun words >>= (λ ab. Ok (node.Mul ab.0 ab.1))
    else Err reason.Word

-- a script with one circuit more
abbrev pub with_circuit : Draft → OpenCircuit → Draft
with_circuit draft begun = record draft {
  circuits = draft.circuits ++ record { name = begun.name; nodes = begun.nodes; values = begun.values } ∷ [];
}

-- whether nodes keep the rules of circuits. Each was judged when it was read, so only the lack of any
-- node is left
abbrev pub is_circuit : Numbers → List Node → Bool
is_circuit numbers nodes = is_none (first_fault numbers.n numbers.t numbers.parties nodes)

-- `end` behind nodes
unfoldable pub circuit_end : Draft → OpenCircuit → List (List ℕ) → Result Place Reason
circuit_end draft begun words = do
  _ ← unless (length words == 1) reason.Word
  _ ← unless (is_circuit draft.frame begun.nodes) reason.Node
  Ok (place.Circuits (with_circuit draft begun))

-- a line in a circuit
unfoldable pub in_circuit : Draft → OpenCircuit → List (List ℕ) → Result Place Reason
in_circuit draft begun words =
    if leads (codes "end") words then circuit_end draft begun words
    else if leads (codes "input") words then input_statement draft begun words
    else if leads (codes "rot") words then rot_statement draft begun words
    else other_node draft begun words >>= (λ added. Ok (place.InCircuit draft (with_node begun added)))
