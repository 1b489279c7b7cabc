-- The statements before the circuits: version, parameters, seed, and who is present.
use Rattle.std.specs.Prelude.{ℕ, ◌-◌, ◌==◌, ◌&&◌, ◌||◌, nat_lt, nat_le, Bool, if◌then◌else◌, List, [], ◌∷◌, ◌++◌, drop, codes, Option, Some, None, Result, Ok, Err}
use Rattle.std.specs.Option.{ok_or}
use Rattle.std.specs.Result.{result_ok}
use Rattle.hex.specs.Hex.{decode_sized}
use Rattle.param_set.specs.declared.raw.Field.{Field}
use Rattle.param_set.specs.declared.raw.RawParams.{RawParams}
use Rattle.param_set.specs.Rules.{value_of, first_bad, root_power}
use Rattle.session_script.specs.declared.reason.Reason.{Reason}
use Rattle.session_script.specs.declared.reason.Reason.TheVariants as reason
use Rattle.session_script.specs.declared.place.Draft.{Draft}
use Rattle.session_script.specs.declared.place.Place.{Place}
use Rattle.session_script.specs.declared.place.Place.TheVariants as place
use Rattle.session_script.specs.Lines.{word_at, leads}
use Rattle.session_script.specs.Checks.{◌>>=◌, unless, is_statement, number_at, numbers_behind}
use Rattle.session_script.specs.Asked.{Numbers, numbers_given}

-- whether the language has this version
abbrev pub is_version : ℕ → Bool
is_version version = (version == 1) || (version == 2)

-- `helium VERSION`
unfoldable pub version_statement : List (List ℕ) → Result Place Reason
version_statement words = do
  _ ← unless (is_statement (codes "helium") 2 words) reason.Word
  version ← number_at words 1
  _ ← unless (is_version version) reason.Version
  Ok (place.Versioned version)

-- the nine numbers of `params`
unfoldable pub given_params : List (List ℕ) → Result RawParams Reason
given_params words = do
  n ← number_at words 1
  q ← number_at words 2
  t ← number_at words 3
  root ← number_at words 4
  digit_bits ← number_at words 5
  err ← number_at words 6
  flood ← number_at words 7
  parties ← number_at words 8
  threshold ← number_at words 9
  Ok (record {
    n = n;
    q = q;
    t = t;
    root = root;
    digit_bits = digit_bits;
    err = err;
    flood = flood;
    parties = parties;
    threshold = threshold;
  })

-- the numbers if they keep the rules of parameters; `bad` is the first field that breaks its rule
unfoldable pub judged : ℕ → RawParams → Option Field → Result Numbers Reason
judged version raw (Some bad) = Err (reason.Params bad (value_of raw bad))
judged version raw None =
    if root_power raw == raw.q - 1 then Ok (numbers_given version raw) else Err (reason.NoRoot (root_power raw))

-- `params n q t root b B D N T`
unfoldable pub params_statement : ℕ → List (List ℕ) → Result Place Reason
params_statement version words = do
  _ ← unless (is_statement (codes "params") 10 words) reason.Word
  raw ← given_params words
  numbers ← judged version raw (first_bad raw)
  Ok (place.Measured version numbers)

-- the 32 bytes that 64 hexadecimal digits of either case spell
abbrev pub master_seed : List ℕ → Result (List ℕ) Reason
master_seed word = ok_or (result_ok (decode_sized word 32)) reason.Seed

-- `seed DIGITS`
unfoldable pub seed_statement : ℕ → Numbers → List (List ℕ) → Result Place Reason
seed_statement version numbers words = do
  _ ← unless (is_statement (codes "seed") 2 words) reason.Word
  master ← master_seed (word_at words 1)
  Ok (place.Seeded version numbers master)

-- these parties, and behind them the others if all are parties and each is above the last
unfoldable pub rising : ℕ → List ℕ → ℕ → List ℕ → Result (List ℕ) Reason
rising parties before last [] = Ok before
rising parties before last (p ∷ rest) =
    if nat_lt last p && nat_le p parties then rising parties (before ++ p ∷ []) p rest else Err reason.Party

-- a script with its head alone
abbrev pub opening : ℕ → Numbers → List ℕ → List ℕ → Draft
opening version numbers master present = record {
  version = version;
  frame = numbers;
  master = master;
  present = present;
  circuits = [];
  inputs = 0;
  turns = [];
  lanes = [];
  lines = 0;
}

-- `present p1 p2 ..`
unfoldable pub present_statement : ℕ → Numbers → List ℕ → List (List ℕ) → Result Place Reason
present_statement version numbers master words = do
  _ ← unless (leads (codes "present") words) reason.Word
  given ← numbers_behind [] (drop 1 words)
  present ← rising numbers.parties [] 0 given
  Ok (place.Circuits (opening version numbers master present))
