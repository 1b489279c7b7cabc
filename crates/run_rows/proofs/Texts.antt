-- The texts of a report and of a check: for short scripts, the lines of refused ones, and the lines that hold no digest.
use Rattle.std.proofs.Common.{◌≡◌, ℕ, false, List, [], ◌∷◌, replicate, codes, Some, refl}
use Rattle.std.specs.Fmt.{digits}
use Rattle.ring_spec.specs.Ring.{residue, residues, ring_sum}
use Rattle.circuit_form.specs.declared.node.Node.TheVariants.{Input, Const, Add, Mul}
use Rattle.circuit_form.specs.Values.{node_value, given_after, values_from, plain_value}
use Rattle.noise_ledger.specs.declared.over.Place.TheVariants as place
use Rattle.param_set.specs.declared.raw.Field.TheVariants as field
use Rattle.session_rules.specs.declared.state.CircuitState.TheVariants.{Refused, Idle, Taken, Evaluated, Answered}
use Rattle.session_script.specs.declared.reason.Reason.TheVariants as reason
use Rattle.session_script.specs.Asked.{Asked, Named, Numbers}
use Rattle.session_spec.specs.Settings.{rules}
use Rattle.run_report.specs.Values.{led_by, trimmed, or_zero, following, spaced, value_text}
use Rattle.run_report.specs.Lines.{circuit_line}
use Rattle.run_report.specs.Checking.{bound_line, over_line, node_lines, plain_line, verdict_lines, circuit_check, check_text}
use Rattle.run_report.specs.Refusals.{field_name, reason_text, refusal_line}
use Rattle.run_report.specs.Reports.{bounding, offered, setting_asked, place_text, refused_line, open_line, state_line, name_at, places}
use Rattle.session_rows.proofs.Words.{sum_of, any_two}
use Rattle.session_rows.proofs.Computed.{plans}

-- ---- values

pub values : (value_text (3 ∷ 0 ∷ 12 ∷ 0 ∷ []) ≡ codes "3 0 12") × (value_text (0 ∷ 0 ∷ []) ≡ codes "0") × (value_text [] ≡ codes "0") × (value_text (0 ∷ 1 ∷ []) ≡ codes "0 1")
unfolding value_text following digits
values = (refl, refl, refl, refl)

pub parts_of_values : (led_by 0 [] ≡ []) × (led_by 0 (1 ∷ []) ≡ 0 ∷ 1 ∷ []) × (trimmed (0 ∷ 5 ∷ 0 ∷ []) ≡ 0 ∷ 5 ∷ []) × (or_zero [] ≡ 0 ∷ []) × (or_zero (7 ∷ []) ≡ 7 ∷ []) × (spaced [] ≡ []) × (following (1 ∷ 2 ∷ []) ≡ codes " 1 2")
unfolding following digits
parts_of_values = (refl, refl, refl, refl, refl, refl, refl)

-- ---- refused scripts

pub names_of_fields : (field_name field.N ≡ codes "n") × (field_name field.Q ≡ codes "q") × (field_name field.T ≡ codes "t") × (field_name field.Root ≡ codes "root") × (field_name field.DigitBits ≡ codes "b")
    × (field_name field.Err ≡ codes "B") × (field_name field.Flood ≡ codes "D") × (field_name field.Parties ≡ codes "N") × (field_name field.Threshold ≡ codes "T")
names_of_fields = (refl, refl, refl, refl, refl, refl, refl, refl, refl)

pub reasons : (reason_text reason.Byte ≡ codes "byte") × (reason_text reason.Word ≡ codes "word") × (reason_text reason.Number ≡ codes "number") × (reason_text reason.Version ≡ codes "version") × (reason_text reason.Limit ≡ codes "limit")
    × (reason_text reason.Seed ≡ codes "seed") × (reason_text reason.Name ≡ codes "name") × (reason_text reason.Party ≡ codes "party") × (reason_text reason.Id ≡ codes "id") × (reason_text reason.Node ≡ codes "node")
unfolding reason_text
reasons = (refl, refl, refl, refl, refl, refl, refl, refl, refl, refl)

pub refusals : (refusal_line 8 reason.End ≡ codes "refused line 8 end\n") × (refusal_line 2 (reason.Params field.Threshold 4) ≡ codes "refused line 2 params T 4\n") × (refusal_line 2 (reason.Params field.Flood 7) ≡ codes "refused line 2 params D 7\n") × (refusal_line 2 (reason.NoRoot 12) ≡ codes "refused line 2 noroot 12\n")
unfolding refusal_line reason_text digits
refusals = (refl, refl, refl, refl)

-- ---- lines on circuits

pub places_are : (place_text (place.Node 12) ≡ codes "node 12") × (place_text place.Output ≡ codes "output")
unfolding digits
places_are = (refl, refl)

pub lines_of_places : (bound_line (place.Node 2) 83 ≡ codes "node 2 83\n") × (bound_line place.Output 85 ≡ codes "output 85\n") × (over_line (place.Node 2) 83 ≡ codes "node 2 83 over\n") × (over_line place.Output 85 ≡ codes "output 85 over\n")
    × (plain_line (8 ∷ 0 ∷ 1 ∷ 0 ∷ []) ≡ codes "plain 8 0 1\n")
unfolding bound_line over_line plain_line value_text following digits
lines_of_places = (refl, refl, refl, refl, refl)

-- the first nodes, so many
pub nodes_are : (node_lines (41 ∷ 42 ∷ 83 ∷ []) 2 ≡ codes "node 0 41\nnode 1 42\n") × (node_lines (41 ∷ []) 0 ≡ [])
unfolding node_lines bound_line digits
nodes_are = (refl, refl)

-- by how far it has come
pub states : (state_line (codes "c") (8 ∷ []) (Refused (place.Node 6) 99 80) ≡ codes "circuit c refused node 6 bound 99 limit 80\n") × (state_line (codes "c") (8 ∷ []) (Refused place.Output 81 80) ≡ codes "circuit c refused output bound 81 limit 80\n")
    × (state_line (codes "c") (8 ∷ []) Idle ≡ codes "circuit c open\n") × (state_line (codes "c") (8 ∷ []) (Taken 2) ≡ codes "circuit c open\n") × (state_line (codes "c") (8 ∷ []) Evaluated ≡ codes "circuit c open\n")
    × (state_line (codes "c") (8 ∷ 0 ∷ []) Answered ≡ codes "circuit c = 8\n")
unfolding state_line refused_line open_line circuit_line value_text following digits
states = (refl, refl, refl, refl, refl, refl)

-- ---- scripts

abbrev pub numbers : Numbers
numbers = record { n = 8; q = 31525197391593473; t = 16; digit_bits = 8; balanced = false; err = 1; flood = 1; parties = 3; threshold = 2; psi = 1791537114801093 }

-- a script with these circuits and nobody present
abbrev pub about : List Named → Asked
about circuits = record { version = 1; numbers = numbers; master = replicate 32 0; present = []; circuits = circuits; lanes = [] }

abbrev pub three : List ℕ
three = 3 ∷ 0 ∷ 1 ∷ 0 ∷ 0 ∷ 0 ∷ 0 ∷ 0 ∷ []

abbrev pub five : List ℕ
five = 5 ∷ 0 ∷ 0 ∷ 0 ∷ 0 ∷ 0 ∷ 0 ∷ 0 ∷ []

abbrev pub sum : Named
sum = record { name = codes "c"; nodes = Input 1 ∷ Input 2 ∷ Add 0 1 ∷ []; values = three ∷ five ∷ [] }

-- products of products, of which the last one's bound is above the limit
abbrev pub loud : Named
loud = record { name = codes "d"; nodes = Input 1 ∷ Mul 0 0 ∷ Mul 1 1 ∷ Mul 2 2 ∷ Mul 3 3 ∷ []; values = three ∷ [] }

-- one party, and a constant that is refused: the flood of its decryption is too large by one
abbrev flood_numbers : Numbers
flood_numbers = record { n = 8; q = 31525197391593473; t = 65537; digit_bits = 8; balanced = false; err = 1; flood = 240514433191; parties = 1; threshold = 1; psi = 1791537114801093 }

abbrev pub flooded_one : Asked
flooded_one = record (about (record { name = codes "k"; nodes = Const (7 ∷ []) ∷ []; values = [] } ∷ [])) { numbers = flood_numbers; present = 1 ∷ [] }

pub numbers_are : bounding (about []) ≡ record { n = 8; q = 31525197391593473; t = 16; digit_bits = 8; balanced = false; err = 1; flood = 1; parties = 3; threshold = 2 }
numbers_are = refl

pub offer_is : offered sum ≡ record { nodes = Input 1 ∷ Input 2 ∷ Add 0 1 ∷ []; values = Some (three ∷ five ∷ []) }
offer_is = refl

pub names_at : (name_at (about (sum ∷ loud ∷ [])) 1 ≡ codes "d") × (name_at (about (sum ∷ loud ∷ [])) 2 ≡ []) × (places (about (sum ∷ loud ∷ [])) ≡ 0 ∷ 1 ∷ [])
names_at = (refl, refl, refl)

pub rules_asked : rules (setting_asked (about (sum ∷ []))) ≡ any_two (sum_of (1 ∷ 2 ∷ []))
unfolding rules setting_asked plans
rules_asked = refl

-- ---- the text of check

-- 3 + X^2 and 5 sum to 8 + X^2
pub checked : check_text (about (sum ∷ [])) ≡ codes "limit 985162418487295\ncircuit c\nnode 0 41\nnode 1 41\nnode 2 83\noutput 85\nplain 8 0 1\n"
unfolding check_text circuit_check verdict_lines node_lines bound_line plain_line value_text following digits plain_value values_from node_value given_after ring_sum residues residue plans
checked = refl

pub checks_nothing : check_text (about []) ≡ codes "limit 985162418487295\n"
unfolding check_text digits
checks_nothing = refl

-- up to the first place that is above the limit: a node, and the output
pub checks_loud : check_text (about (loud ∷ [])) ≡ codes "limit 985162418487295\ncircuit d\nnode 0 41\nnode 1 1350125\nnode 2 4840051181\nnode 3 17346744635885\nnode 4 62170732776215021 over\n"
unfolding check_text circuit_check verdict_lines node_lines over_line bound_line digits plans
checks_loud = refl

pub checks_flooded : check_text flooded_one ≡ codes "limit 240514433190\ncircuit k\nnode 0 0\noutput 240514433191 over\n"
unfolding check_text circuit_check verdict_lines node_lines over_line bound_line digits plans
checks_flooded = refl
