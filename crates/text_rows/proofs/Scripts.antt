-- Scripts: their lines, words and numbers; a whole one behind its parameters, and lines that are refused; and what
-- accepted ones keep.
use Rattle.std.proofs.Common.{◌≡◌, ℕ, ◌<◌, Bool, true, false, List, [], ◌∷◌, replicate, codes, Option, Some, None, Result, Ok, Err, refl, sym, ap, true≢false, arith}
use Rattle.std.proofs.lemmas.List.Elements.{All-cons, All-nil}
use Rattle.hex.specs.Hex.{decode_pairs}
use Rattle.ring_spec.specs.Ring.{IsPoly}
use Rattle.circuit_form.specs.declared.node.Node.TheVariants as node
use Rattle.circuit_form.specs.Circuits.{may_stand, first_wrong, first_fault, owners}
use Rattle.session_rules.specs.declared.line.Line.TheVariants as line
use Rattle.session_script.specs.declared.reason.Reason.{Reason}
use Rattle.session_script.specs.declared.reason.Reason.TheVariants as reason
use Rattle.session_script.specs.declared.reason.ScriptStop.TheVariants as stop
use Rattle.session_script.specs.Words.{parts_at, digits_behind, number}
use Rattle.session_script.specs.Lines.{without_end, lines, words, is_skipped}
use Rattle.session_script.specs.Asked.{Numbers, Asked}
use Rattle.session_script.specs.Checks.{numbers_behind}
use Rattle.session_script.specs.Heads.{version_statement, params_statement, seed_statement, rising, present_statement}
use Rattle.session_script.specs.CircuitLines.{is_name, circuit_statement, plain, input_statement, const_node, operands, neg_node, rot_statement, other_node, circuit_end, in_circuit}
use Rattle.session_script.specs.LaneLines.{lane_statement, lone_party, hold_line, lone_line, lane_line, lane_end, in_lane, workers_statement}
use Rattle.session_script.specs.Scripts.{Refusal, past_line, done_statement, between_lanes, between_circuits, statement, spoken, after_line, ended, read_from, script, IsStopOf}
use Rattle.session_script.specs.Kept.{IsNamed, AreNamed, IsParty, Rising, ArePresent}

-- ---- texts

-- behind a last line feed there is no line, and an empty one counts
pub lines_of : (lines (codes "a\n\nb") ≡ codes "a" ∷ [] ∷ codes "b" ∷ []) × (lines (codes "a\n") ≡ codes "a" ∷ []) × (lines [] ≡ []) × (lines (codes "\n\n") ≡ [] ∷ [] ∷ [])
unfolding lines without_end parts_at
lines_of = (refl, refl, refl, refl)

pub words_of : (words (codes "  ab  c ") ≡ codes "ab" ∷ codes "c" ∷ []) × (words (codes "  ") ≡ [])
unfolding words parts_at
words_of = (refl, refl)

-- decimal digits, no zero before another digit, below 2^64
pub numbers_of : (number (codes "0") ≡ Some 0) × (number (codes "120") ≡ Some 120) × (number (codes "18446744073709551615") ≡ Some 18446744073709551615) × (number (codes "18446744073709551616") ≡ None)
    × (number (codes "01") ≡ None) × (number (codes "1a") ≡ None) × (number (codes "-1") ≡ None) × (number [] ≡ None)
unfolding number digits_behind
numbers_of = (refl, refl, refl, refl, refl, refl, refl, refl)

-- 1 to 16 bytes, the first a letter
pub names : (is_name (codes "a_9") ≡ true) × (is_name (codes "abcdefghijklmnop") ≡ true) × (is_name (codes "abcdefghijklmnopq") ≡ false) × (is_name (codes "9a") ≡ false) × (is_name (codes "_a") ≡ false) × (is_name (codes "aB") ≡ false) × (is_name [] ≡ false)
unfolding is_name
names = (refl, refl, refl, refl, refl, refl, refl)

pub skipped : (is_skipped (codes "#x" ∷ codes "y" ∷ []) ≡ true) × (is_skipped [] ≡ true) × (is_skipped (codes "x" ∷ codes "#y" ∷ []) ≡ false)
unfolding is_skipped
skipped = (refl, refl, refl)

-- ---- scripts: two coefficients modulo 4, and three parties

abbrev pub numbers : Numbers
numbers = record { n = 2; q = 17; t = 4; digit_bits = 1; balanced = false; err = 1; flood = 1; parties = 3; threshold = 2; psi = 4 }

abbrev pub master : List ℕ
master = replicate 32 171

-- what a script says from its third line on: the seed, and the lines behind it
abbrev pub from_seed : List ℕ → List ℕ → Result Asked Refusal
from_seed seed rest = past_line 3 (seed_statement 1 numbers (words seed)) (λ next. read_from next 4 (lines rest))

pub whole : from_seed (codes "seed abababababababababababababababababababababababababABABABABABABAB") (codes "present 1 3\n# a comment\ncircuit c\ninput 2 3\n\nconst 1 2\nadd 0 1\nsub 1 2\nneg 3\nmul 1 4\nrot 3 5\nend\nlane\njoin 2\nlose 2\nsend 1\nhold 1 7\ngive\nwork\nquit\nend\nworkers 2 1\ndone\n")
    ≡ Ok (record {
      version = 1;
      numbers = numbers;
      master = master;
      present = 1 ∷ 3 ∷ [];
      circuits = record {
        name = codes "c";
        nodes = node.Input 2 ∷ node.Const (1 ∷ 2 ∷ []) ∷ node.Add 0 1 ∷ node.Sub 1 2 ∷ node.Neg 3 ∷ node.Mul 1 4 ∷ node.Rot 3 5 ∷ [];
        values = (3 ∷ 0 ∷ []) ∷ [];
      } ∷ [];
      lanes = (line.Join 2 ∷ line.Lose 2 ∷ line.Send 1 ∷ line.Hold 1 7 ∷ line.Give ∷ line.Work ∷ line.Quit ∷ []) ∷ (line.Work ∷ []) ∷ (line.Work ∷ []) ∷ [];
    })
unfolding read_from lines without_end parts_at after_line spoken words is_skipped statement seed_statement decode_pairs present_statement numbers_behind number digits_behind rising between_circuits between_lanes circuit_statement is_name in_circuit input_statement plain other_node const_node operands neg_node rot_statement circuit_end first_fault first_wrong may_stand lane_statement in_lane lane_line lone_party hold_line lone_line lane_end workers_statement done_statement ended
whole = refl

-- the first line that breaks a rule, and the first of its reasons
abbrev refusal : ℕ → Reason → Result Asked Refusal
refusal at why = Err (record { line = at; reason = why })

pub ends_too_early : (script [] ≡ refusal 1 reason.End) × (script (codes "helium 1\n") ≡ refusal 2 reason.End) × (script (codes "# nothing\n\n") ≡ refusal 3 reason.End) × (script (codes "helium 2\n") ≡ refusal 2 reason.End)
unfolding script read_from lines without_end parts_at after_line spoken words is_skipped statement version_statement number digits_behind ended
ends_too_early = (refl, refl, refl, refl)

pub refused_at_first : (script (codes "helium 3") ≡ refusal 1 reason.Version) × (script (codes "helium") ≡ refusal 1 reason.Word) × (script (codes "helium x") ≡ refusal 1 reason.Number) × (script (codes "helium\t1") ≡ refusal 1 reason.Byte) × (script (codes "\nhelium 1\nseed 0") ≡ refusal 3 reason.Word)
unfolding script read_from lines without_end parts_at after_line spoken words is_skipped statement version_statement params_statement number digits_behind
refused_at_first = (refl, refl, refl, refl, refl)

pub refused_seed : from_seed (codes "seed 00") [] ≡ refusal 3 reason.Seed
unfolding read_from lines without_end parts_at after_line spoken words is_skipped statement seed_statement
refused_seed = refl

-- ---- what accepted scripts keep

pub named : IsNamed numbers (record { name = codes "c"; nodes = node.Input 3 ∷ node.Neg 0 ∷ []; values = (3 ∷ 0 ∷ []) ∷ [] })
unfolding is_name first_fault first_wrong may_stand owners
named = record {
  name = refl;
  rules = refl;
  count = refl;
  values = All-cons (IsPoly 4 2) (3 ∷ 0 ∷ []) [] (record { entries = refl; below = All-cons (λ x. x < 4) 3 (0 ∷ []) (omega arith) (All-cons (λ x. x < 4) 0 [] (omega arith) (All-nil (λ x. x < 4))) }) (All-nil (IsPoly 4 2));
}

pub named_badly : IsNamed numbers (record { name = codes "C"; nodes = node.Input 3 ∷ []; values = (3 ∷ 0 ∷ []) ∷ [] }) → ⊥
unfolding is_name
named_badly c = true≢false (sym c.name)

pub has_no_node : IsNamed numbers (record { name = codes "c"; nodes = []; values = [] }) → ⊥
unfolding first_fault
has_no_node c = let fault : ◌≡◌ {A = Option ℕ} (Some 0) None = c.rules in cc

pub has_no_value : IsNamed numbers (record { name = codes "c"; nodes = node.Input 3 ∷ []; values = [] }) → ⊥
unfolding owners
has_no_value c = absurd (omega (arith, c.count))

pub has_a_large_value : IsNamed numbers (record { name = codes "c"; nodes = node.Input 3 ∷ []; values = (4 ∷ 0 ∷ []) ∷ [] }) → ⊥
has_a_large_value c = let first : 4 < 4 = (c.values 0 [] (omega arith)).below 0 0 (omega arith) in absurd (omega (arith, first))

-- a script of nothing, but for who is present
abbrev pub of_those : List ℕ → Asked
of_those present = record { version = 1; numbers = numbers; master = master; present = present; circuits = []; lanes = [] }

pub present : ArePresent (of_those (1 ∷ 3 ∷ []))
unfolding Rising
present = record {
  parties = All-cons (IsParty numbers) 1 (3 ∷ []) (omega arith, omega arith) (All-cons (IsParty numbers) 3 [] (omega arith, omega arith) (All-nil (IsParty numbers)));
  rising = (omega arith, (omega arith, tt));
}

pub present_twice : ArePresent (of_those (3 ∷ 3 ∷ [])) → ⊥
unfolding Rising
present_twice p = absurd (omega (arith, p.rising.1.0))

pub falling : ArePresent (of_those (3 ∷ 1 ∷ [])) → ⊥
unfolding Rising
falling p = absurd (omega (arith, p.rising.1.0))

pub nobody : ArePresent (of_those (0 ∷ [])) → ⊥
unfolding Rising
nobody p = absurd (omega (arith, p.rising.0))

pub too_many : ArePresent (of_those (4 ∷ [])) → ⊥
too_many p = let party = p.parties 0 1 (omega arith) in absurd (omega (arith, party.1))

pub none_named : AreNamed (of_those [])
none_named = All-nil (IsNamed numbers)

-- ---- stops: want of memory alone is free

pub stop_is : IsStopOf (refusal 7 reason.Word) (stop.Refused 7 reason.Word)
stop_is = refl

pub no_memory : IsStopOf (refusal 7 reason.Word) stop.NoMemory
no_memory = tt

abbrev is_word : Reason → Bool
is_word reason.Word = true
is_word other = false

abbrev for_word : Result Asked Refusal → Bool
for_word (Ok a) = false
for_word (Err r) = is_word r.reason

pub stops_for_another_reason : IsStopOf (refusal 7 reason.Word) (stop.Refused 7 reason.Number) → ⊥
stops_for_another_reason h = true≢false (ap for_word h)

abbrev line_of : Result Asked Refusal → ℕ
line_of (Ok a) = 0
line_of (Err r) = r.line

pub stops_elsewhere : IsStopOf (refusal 7 reason.Word) (stop.Refused 8 reason.Word) → ⊥
stops_elsewhere h = let at : 7 ≡ 8 = ap line_of h in absurd (omega (arith, at))
