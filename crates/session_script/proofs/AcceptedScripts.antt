-- A worked instance: what a whole script of three parties asks for, by computation.
use Rattle.std.proofs.Common.{◌≡◌, ℕ, zero, suc, ◌+◌, ◌-◌, ◌*◌, ◌/◌, ◌%◌, ◌^◌, ◌==◌, Bool, true, false, List, [], ◌∷◌, ◌++◌, replicate, codes, flat_map, Ok, None, refl, sym, ap, ◌∙◌, arith}
use lib.Count.{ones}
use Rattle.std.proofs.Math.Nat.{pow-suc}
use Rattle.hex.proofs.OnLiterals.{hex_on_literals}
use Rattle.param_set.specs.declared.raw.RawParams.{RawParams}
use Rattle.param_set.specs.Moduli.{indivisible}
use Rattle.param_set.specs.Rules.{is_degree, is_modulus, first_bad, root_of, root_power}
use Rattle.param_set.proofs.Squarings.{even_step}
use Rattle.circuit_form.specs.declared.node.Node.TheVariants as node
use Rattle.circuit_form.specs.Circuits.{may_stand, first_wrong, first_fault}
use Rattle.session_script.specs.declared.place.Place.{Place}
use Rattle.session_script.specs.declared.place.Place.TheVariants as place
use Rattle.session_script.specs.Words.{parts_at, number, digits_behind}
use Rattle.session_script.specs.Lines.{without_end, lines, words, is_skipped}
use Rattle.session_script.specs.Checks.{numbers_behind}
use Rattle.session_script.specs.Asked.{Numbers, Asked}
use Rattle.session_script.specs.Heads.{version_statement, given_params, judged, params_statement, seed_statement, rising, present_statement}
use Rattle.session_script.specs.CircuitLines.{is_name, circuit_statement, plain, input_statement, operands, other_node, circuit_end, in_circuit}
use Rattle.session_script.specs.Scripts.{done_statement, between_lanes, between_circuits, statement, spoken, after_line, ended, read_from, script}

-- ---- the root of the parameters

-- k squarings modulo q
squared : ℕ → ℕ → ℕ → ℕ
squared q zero s = s
squared q (suc k) s = squared q k (s * s % q)

one_time : (x : ℕ) → 1 * x ≡ x
one_time x = omega arith

-- they are a power
squared-power : (q k s h : ℕ) → squared q k s ^ h % q ≡ s ^ (2 ^ k * h) % q
unfolding squared
squared-power q zero s h = ap (λ e. s ^ e % q) (let same : h ≡ 2 ^ 0 * h = omega arith in same)
squared-power q (suc k) s h =
    let double = ap (λ z. z * h) (pow-suc 2 k) in
    let twice : 2 ^ suc k * h ≡ 2 * (2 ^ k * h) = omega (arith, double) in
    let step = even_step q 1 s (2 ^ suc k * h) (2 ^ k * h) twice in
    squared-power q k (s * s % q) h ∙ ap (λ z. z % q) (sym (one_time ((s * s % q) ^ (2 ^ k * h)))) ∙ step ∙ ap (λ z. z % q) (one_time (s ^ (2 ^ suc k * h)))

root-squared : (raw : RawParams) (k h : ℕ) → (raw.q - 1) / (2 * raw.n) ≡ 2 ^ k * h → root_of raw ≡ squared raw.q k raw.root ^ h % raw.q
unfolding root_of
root-squared raw k h e = ap (λ z. raw.root ^ z % raw.q) e ∙ sym (squared-power raw.q k raw.root h)

-- the nine numbers of the line `params`
abbrev given : RawParams
given = record { n = 8; q = 31525197391593473; t = 16; root = 3; digit_bits = 8; err = 1; flood = 1; parties = 3; threshold = 2 }

-- their root, by 48 squarings and a seventh power
root : root_of given ≡ 1791537114801093
unfolding squared
root = root-squared given 48 7 refl ∙ refl

powered : (raw : RawParams) → root_power raw ≡ root_of raw ^ raw.n % raw.q
unfolding root_power
powered raw = refl

power : root_power given ≡ 31525197391593472
power = powered given ∙ ap (λ psi. psi ^ 8 % 31525197391593473) root

-- ---- the text

-- its lines, each ended by a line feed
text_of : List (List ℕ) → List ℕ
text_of ls = flat_map (λ line. line ++ 10 ∷ []) ls

abbrev params_words : List (List ℕ)
params_words = codes "params" ∷ codes "8" ∷ codes "31525197391593473" ∷ codes "16" ∷ codes "3" ∷ codes "8" ∷ codes "1" ∷ codes "1" ∷ codes "3" ∷ codes "2" ∷ []

-- the lines behind the parameters
abbrev behind : List (List ℕ)
behind =
    (codes "seed " ++ replicate 64 48)
    ∷ codes "present 1 2 3"
    ∷ codes "circuit c"
    ∷ codes "input 1 3 0 1"
    ∷ codes "input 2 5"
    ∷ codes "add 0 1"
    ∷ codes "end"
    ∷ codes "done"
    ∷ []

abbrev all : List ℕ → List (List ℕ)
all first = first ∷ codes "params 8 31525197391593473 16 3 8 1 1 3 2" ∷ behind

-- ---- what it asks for

-- in the two versions alike but for the digits
abbrev numbers : Bool → Numbers
numbers balanced = record { n = 8; q = 31525197391593473; t = 16; digit_bits = 8; balanced = balanced; err = 1; flood = 1; parties = 3; threshold = 2; psi = 1791537114801093 }

abbrev wanted : ℕ → Bool → Asked
wanted version balanced = record {
  version = version;
  numbers = numbers balanced;
  master = replicate 32 0;
  present = 1 ∷ 2 ∷ 3 ∷ [];
  circuits = record {
    name = codes "c";
    nodes = node.Input 1 ∷ node.Input 2 ∷ node.Add 0 1 ∷ [];
    values = (3 ∷ 0 ∷ 1 ∷ 0 ∷ 0 ∷ 0 ∷ 0 ∷ 0 ∷ []) ∷ (5 ∷ 0 ∷ 0 ∷ 0 ∷ 0 ∷ 0 ∷ 0 ∷ 0 ∷ []) ∷ [];
  } ∷ [];
  lanes = [];
}

-- the nine numbers keep their rules
kept : first_bad given ≡ None
unfolding first_bad is_degree is_modulus indivisible ones
kept = refl

judged-given : (version : ℕ) → judged version given None ≡ Ok (numbers (version == 2))
unfolding judged
judged-given version = rw (power, root) refl

-- the words of the line
params-given : given_params params_words ≡ Ok given
unfolding given_params number digits_behind
params-given = refl

params-read : (version : ℕ) → params_statement version params_words ≡ Ok (place.Measured version (numbers (version == 2)))
unfolding params_statement
params-read version = rw (params-given, kept, judged-given version) refl

params-words : words (codes "params 8 31525197391593473 16 3 8 1 1 3 2") ≡ params_words
unfolding words parts_at
params-words = refl

measured : (version : ℕ) → after_line (place.Versioned version) (codes "params 8 31525197391593473 16 3 8 1 1 3 2") ≡ Ok (place.Measured version (numbers (version == 2)))
unfolding after_line spoken statement is_skipped
measured version = rw (params-words, params-read version) refl

-- the lines before the parameters, and those behind them
begins : read_from place.Start 1 (all (codes "helium 1")) ≡ read_from (place.Versioned 1) 2 (codes "params 8 31525197391593473 16 3 8 1 1 3 2" ∷ behind)
unfolding read_from after_line spoken statement is_skipped words parts_at version_statement number digits_behind
begins = refl

begins-balanced : read_from place.Start 1 (all (codes "helium 2")) ≡ read_from (place.Versioned 2) 2 (codes "params 8 31525197391593473 16 3 8 1 1 3 2" ∷ behind)
unfolding read_from after_line spoken statement is_skipped words parts_at version_statement number digits_behind
begins-balanced = refl

-- a line that is read leaves the others
step : (at next : Place) (n : ℕ) (line : List ℕ) (rest : List (List ℕ)) → after_line at line ≡ Ok next → read_from at n (line ∷ rest) ≡ read_from next (n + 1) rest
unfolding read_from
step at next n line rest e = rw e refl

ends : (version : ℕ) (balanced : Bool) → read_from (place.Measured version (numbers balanced)) 3 behind ≡ Ok (wanted version balanced)
unfolding hex_on_literals parts_at number digits_behind numbers_behind words is_skipped seed_statement present_statement rising is_name circuit_statement plain input_statement operands other_node circuit_end in_circuit done_statement between_lanes between_circuits statement spoken after_line first_fault first_wrong may_stand ended read_from
ends version balanced = refl

cut : lines (text_of (all (codes "helium 1"))) ≡ all (codes "helium 1")
unfolding lines without_end parts_at text_of
cut = refl

cut-balanced : lines (text_of (all (codes "helium 2"))) ≡ all (codes "helium 2")
unfolding lines without_end parts_at text_of
cut-balanced = refl

-- three parties of whom two act, all present, add two inputs
sum_of_two : script (text_of (all (codes "helium 1"))) ≡ Ok (wanted 1 false)
unfolding script
sum_of_two = ap (read_from place.Start 1) cut ∙ begins ∙ step _ _ _ _ _ (measured 1) ∙ ends 1 false

-- the same with balanced digits
sum_balanced : script (text_of (all (codes "helium 2"))) ≡ Ok (wanted 2 true)
unfolding script
sum_balanced = ap (read_from place.Start 1) cut-balanced ∙ begins-balanced ∙ step _ _ _ _ _ (measured 2) ∙ ends 2 true
