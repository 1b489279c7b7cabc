-- What each accepted script keeps, said of what it asks for: its numbers, who is present, its circuits and
-- its lanes.
use Rattle.std.specs.Prelude.{◌≡◌, ℕ, ◌-◌, ◌*◌, ◌%◌, ◌^◌, ◌<◌, ◌≤◌, ◌==◌, Bool, ◌⊎◌, List, [], ◌∷◌, ◌++◌, true, None, All, IsTrue, length, map, filter, sum_by, replicate, ⊤}
use Rattle.std.specs.Int.{is_power_of_two}
use Rattle.std.specs.List.{range_with_len, list_any, IsDistinct}
use Rattle.std.specs.Str.{bytes_eq}
use Rattle.ring_spec.specs.Ring.{IsPoly}
use Rattle.param_set.specs.Moduli.{indivisible}
use Rattle.circuit_form.specs.Circuits.{first_fault, owners, has_rot}
use Rattle.session_rules.specs.declared.line.Line.{Line}
use Rattle.session_rules.specs.declared.line.Line.TheVariants as line
use Rattle.session_script.specs.Asked.{Numbers, Named, Asked}
use Rattle.session_script.specs.CircuitLines.{is_name}

-- ---- the version

-- the language has the versions 1 and 2
abbrev pub IsVersion : ℕ → Type 0
IsVersion version = (version ≡ 1) ⊎ (version ≡ 2)

-- ---- the numbers

-- those of checked parameters: their ranges, and a root psi of X^n + 1 modulo q
pub record AreChecked (numbers : Numbers) : Type 0 where
  pub degree : (8 ≤ numbers.n) × (numbers.n ≤ 4096) × IsTrue (is_power_of_two numbers.n)
  pub modulus : (2 ^ 40 ≤ numbers.q) × (numbers.q < 2 ^ 55) × (numbers.q % (2 * numbers.n) ≡ 1)
  pub no_small_factor : IsTrue (indivisible numbers.q 31)
  pub plain_modulus : (2 ≤ numbers.t) × (numbers.t ≤ 65537)
  pub digits : (1 ≤ numbers.digit_bits) × (numbers.digit_bits ≤ 16)
  pub noise : (1 ≤ numbers.err) × (numbers.err ≤ 255) × (numbers.flood ≤ 2 ^ 40)
  pub group : (1 ≤ numbers.threshold) × (numbers.threshold ≤ numbers.parties) × (numbers.parties ≤ 32)
  pub root : (numbers.psi < numbers.q) × (numbers.psi ^ numbers.n % numbers.q ≡ numbers.q - 1)

-- ---- who is present

-- the number of a party
abbrev pub IsParty : Numbers → ℕ → Type 0
IsParty numbers p = (1 ≤ p) × (p ≤ numbers.parties)

-- numbers each of which is above the last, the first above this one
unfoldable pub Rising : ℕ → List ℕ → Type 0
Rising last [] = ⊤
Rising last (p ∷ rest) = (last < p) × Rising p rest

-- those who are present are parties, each named once
pub record ArePresent (script : Asked) : Type 0 where
  pub parties : All (IsParty script.numbers) script.present
  pub rising : Rising 0 script.present

-- ---- the circuits

-- a circuit under a name, which keeps the rules of circuits for these numbers, with one value of n
-- coefficients below t for each input
pub record IsNamed (numbers : Numbers) (circuit : Named) : Type 0 where
  pub name : is_name circuit.name ≡ true
  pub rules : first_fault numbers.n numbers.t numbers.parties circuit.nodes ≡ None
  pub count : length circuit.values ≡ length (owners circuit.nodes)
  pub values : All (IsPoly numbers.t numbers.n) circuit.values

-- all circuits of a script
abbrev pub AreNamed : Asked → Type 0
AreNamed script = All (IsNamed script.numbers) script.circuits

-- the name of a circuit
abbrev pub name_of : Named → List ℕ
name_of circuit = circuit.name

-- how many nodes a circuit has: 1 to 256
abbrev pub IsSized : Named → Type 0
IsSized circuit = (1 ≤ length circuit.nodes) × (length circuit.nodes ≤ 256)

-- how many inputs a circuit has, and all circuits have
abbrev pub inputs_of : Named → ℕ
inputs_of circuit = length (owners circuit.nodes)

abbrev pub inputs : List Named → ℕ
inputs circuits = sum_by inputs_of circuits

-- whether a circuit rotates by g, and whether one of some does
abbrev pub turns_by : ℕ → Named → Bool
turns_by g circuit = has_rot g circuit.nodes

abbrev pub is_turned : List Named → ℕ → Bool
is_turned circuits g = list_any (turns_by g) circuits

-- the different rotations of circuits over polynomials of n coefficients
abbrev pub turns : ℕ → List Named → List ℕ
turns n circuits = filter (is_turned circuits) (range_with_len 0 (2 * n))

-- ---- the lanes

-- the parties of a line are parties, and an instance has a number from 1 to 2^32 - 1
unfoldable pub IsLine : Numbers → Line → Type 0
IsLine numbers (line.Join p) = IsParty numbers p
IsLine numbers (line.Lose p) = IsParty numbers p
IsLine numbers (line.Send p) = IsParty numbers p
IsLine numbers (line.Hold p id) = IsParty numbers p × (1 ≤ id) × (id < 2 ^ 32)
IsLine numbers line.Give = ⊤
IsLine numbers line.Work = ⊤
IsLine numbers line.Quit = ⊤

-- each line of a lane is such a one
abbrev pub IsLane : Numbers → List Line → Type 0
IsLane numbers lane = All (IsLine numbers) lane

-- how many lines a lane has, and all lanes have
abbrev pub lines_of : List Line → ℕ
lines_of lane = length lane

abbrev pub lines : List (List Line) → ℕ
lines lanes = sum_by lines_of lanes

-- written lanes, and behind them those of workers, which are alike and do nothing but work
pub record AreLanes (numbers : Numbers) (lanes : List (List Line)) : Type 0 where
  pub written : List (List Line)
  pub workers : ℕ
  pub jobs : ℕ
  pub all : lanes ≡ written ++ replicate workers (replicate jobs line.Work)
  pub few_written : length written ≤ 8
  pub few_lines : lines written ≤ 4096
  pub few_workers : workers ≤ 8
  pub few_jobs : jobs ≤ 256
  pub each : All (IsLane numbers) written

-- ---- the script

pub record IsAccepted (script : Asked) : Type 0 where
  -- the language has its version
  pub version : IsVersion script.version
  -- digits are balanced in version 2 alone
  pub balanced : script.numbers.balanced ≡ (script.version == 2)
  -- its numbers are those of checked parameters
  pub numbers : AreChecked script.numbers
  -- those who are present are parties and rise
  pub present : ArePresent script
  -- there are at most 64 circuits
  pub few : length script.circuits ≤ 64
  -- each circuit has a name, keeps the rules of circuits, and has a value for each input
  pub named : AreNamed script
  -- each has 1 to 256 nodes
  pub sized : All IsSized script.circuits
  -- no two circuits have the same name
  pub distinct : IsDistinct bytes_eq (map name_of script.circuits)
  -- all circuits together have at most 1,024 inputs
  pub few_inputs : inputs script.circuits ≤ 1024
  -- all circuits together rotate by at most 16 different g
  pub few_turns : length (turns script.numbers.n script.circuits) ≤ 16
  -- its lanes are written ones and those of workers
  pub lanes : AreLanes script.numbers script.lanes
