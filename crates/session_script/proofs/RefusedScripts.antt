-- Worked instances: what some texts and lines are refused for, by computation.
use Rattle.std.proofs.Common.{false, ◌≡◌, [], ◌∷◌, ◌++◌, codes, Ok, Err, refl}
use Rattle.session_rules.specs.declared.line.Line.TheVariants as line
use Rattle.circuit_form.specs.declared.node.Node.TheVariants as node
use Rattle.circuit_form.specs.Circuits.{first_fault}
use Rattle.session_script.specs.declared.reason.Reason.TheVariants as reason
use Rattle.session_script.specs.declared.place.Draft.{Draft}
use Rattle.session_script.specs.declared.place.OpenCircuit.{OpenCircuit}
use Rattle.session_script.specs.declared.place.Place.TheVariants as place
use Rattle.session_script.specs.Words.{parts_at, number, digits_behind}
use Rattle.session_script.specs.Lines.{without_end, lines, words, is_skipped}
use Rattle.session_script.specs.Checks.{numbers_behind}
use Rattle.session_script.specs.Asked.{Numbers}
use Rattle.session_script.specs.Heads.{version_statement, params_statement, seed_statement, present_statement, rising, opening}
use Rattle.session_script.specs.CircuitLines.{is_name, circuit_statement, plain, input_statement, const_node, operands, neg_node, rot_statement, other_node, circuit_end, in_circuit}
use Rattle.session_script.specs.LaneLines.{lane_statement, lone_party, hold_line, lone_line, lane_line, lane_end, in_lane, workers_statement}
use Rattle.session_script.specs.Scripts.{done_statement, between_lanes, between_circuits, statement, spoken, after_line, ended, read_from, script}

-- ---- whole texts, of which no line gives parameters

-- no bytes at all
no_bytes : script ([]) ≡ Err (record { line = 1; reason = reason.End })
unfolding parts_at number digits_behind without_end lines words is_skipped version_statement params_statement statement spoken after_line ended read_from script
no_bytes = refl

-- the version alone
version_alone : script (codes "helium 1") ≡ Err (record { line = 2; reason = reason.End })
unfolding parts_at number digits_behind without_end lines words is_skipped version_statement params_statement statement spoken after_line ended read_from script
version_alone = refl

-- version 9
later_version : script (codes "helium 9") ≡ Err (record { line = 1; reason = reason.Version })
unfolding parts_at number digits_behind without_end lines words is_skipped version_statement params_statement statement spoken after_line ended read_from script
later_version = refl

-- a zero in front
leading_zero : script (codes "helium 01") ≡ Err (record { line = 1; reason = reason.Number })
unfolding parts_at number digits_behind without_end lines words is_skipped version_statement params_statement statement spoken after_line ended read_from script
leading_zero = refl

-- 2^64
past_64_bits : script (codes "helium 18446744073709551616") ≡ Err (record { line = 1; reason = reason.Number })
unfolding parts_at number digits_behind without_end lines words is_skipped version_statement params_statement statement spoken after_line ended read_from script
past_64_bits = refl

-- a tab
tab : script (codes "helium" ++ 9 ∷ codes "1") ≡ Err (record { line = 1; reason = reason.Byte })
unfolding parts_at number digits_behind without_end lines words is_skipped version_statement params_statement statement spoken after_line ended read_from script
tab = refl

-- an empty line and a comment are skipped
comment_first : script (10 ∷ codes "# 1" ++ 10 ∷ codes "seed") ≡ Err (record { line = 3; reason = reason.Word })
unfolding parts_at number digits_behind without_end lines words is_skipped version_statement params_statement statement spoken after_line ended read_from script
comment_first = refl

-- ---- lines at a place

-- n = 8, t = 16, three parties of whom two act, and no circuit or lane so far
numbers : Numbers
numbers = record { n = 8; q = 31525197391593473; t = 16; digit_bits = 8; balanced = false; err = 1; flood = 1; parties = 3; threshold = 2; psi = 1791537114801093 }

draft : Draft
draft = opening 1 numbers [] []

-- a circuit of two inputs
begun : OpenCircuit
begun = record { name = codes "c"; nodes = node.Input 1 ∷ node.Input 2 ∷ []; values = [] }

-- parties that fall
falling : after_line (place.Seeded 1 numbers []) (codes "present 2 1") ≡ Err reason.Party
unfolding numbers draft begun parts_at number digits_behind numbers_behind words is_skipped seed_statement present_statement rising is_name circuit_statement plain input_statement const_node operands neg_node rot_statement other_node circuit_end in_circuit lane_statement lone_party hold_line lone_line lane_line lane_end in_lane workers_statement done_statement between_lanes between_circuits statement spoken after_line first_fault
falling = refl

-- a capital letter
capital : after_line (place.Circuits draft) (codes "circuit C") ≡ Err reason.Name
unfolding numbers draft begun parts_at number digits_behind numbers_behind words is_skipped seed_statement present_statement rising is_name circuit_statement plain input_statement const_node operands neg_node rot_statement other_node circuit_end in_circuit lane_statement lone_party hold_line lone_line lane_line lane_end in_lane workers_statement done_statement between_lanes between_circuits statement spoken after_line first_fault
capital = refl

-- an input without a value
no_value : after_line (place.InCircuit draft begun) (codes "input 1") ≡ Err reason.Word
unfolding numbers draft begun parts_at number digits_behind numbers_behind words is_skipped seed_statement present_statement rising is_name circuit_statement plain input_statement const_node operands neg_node rot_statement other_node circuit_end in_circuit lane_statement lone_party hold_line lone_line lane_line lane_end in_lane workers_statement done_statement between_lanes between_circuits statement spoken after_line first_fault
no_value = refl

-- an input of a stranger, before its wrong value
stranger : after_line (place.InCircuit draft begun) (codes "input 4 16") ≡ Err reason.Party
unfolding numbers draft begun parts_at number digits_behind numbers_behind words is_skipped seed_statement present_statement rising is_name circuit_statement plain input_statement const_node operands neg_node rot_statement other_node circuit_end in_circuit lane_statement lone_party hold_line lone_line lane_line lane_end in_lane workers_statement done_statement between_lanes between_circuits statement spoken after_line first_fault
stranger = refl

-- a coefficient t
value_of_t : after_line (place.InCircuit draft begun) (codes "input 1 16") ≡ Err reason.Node
unfolding numbers draft begun parts_at number digits_behind numbers_behind words is_skipped seed_statement present_statement rising is_name circuit_statement plain input_statement const_node operands neg_node rot_statement other_node circuit_end in_circuit lane_statement lone_party hold_line lone_line lane_line lane_end in_lane workers_statement done_statement between_lanes between_circuits statement spoken after_line first_fault
value_of_t = refl

-- a circuit without nodes
no_node : after_line (place.InCircuit draft (record { name = codes "c"; nodes = []; values = [] })) (codes "end") ≡ Err reason.Node
unfolding numbers draft begun parts_at number digits_behind numbers_behind words is_skipped seed_statement present_statement rising is_name circuit_statement plain input_statement const_node operands neg_node rot_statement other_node circuit_end in_circuit lane_statement lone_party hold_line lone_line lane_line lane_end in_lane workers_statement done_statement between_lanes between_circuits statement spoken after_line first_fault
no_node = refl

-- a node that takes itself
itself : after_line (place.InCircuit draft begun) (codes "add 0 2") ≡ Err reason.Node
unfolding numbers draft begun parts_at number digits_behind numbers_behind words is_skipped seed_statement present_statement rising is_name circuit_statement plain input_statement const_node operands neg_node rot_statement other_node circuit_end in_circuit lane_statement lone_party hold_line lone_line lane_line lane_end in_lane workers_statement done_statement between_lanes between_circuits statement spoken after_line first_fault
itself = refl

-- an even rotation
even_turn : after_line (place.InCircuit draft begun) (codes "rot 4 0") ≡ Err reason.Node
unfolding numbers draft begun parts_at number digits_behind numbers_behind words is_skipped seed_statement present_statement rising is_name circuit_statement plain input_statement const_node operands neg_node rot_statement other_node circuit_end in_circuit lane_statement lone_party hold_line lone_line lane_line lane_end in_lane workers_statement done_statement between_lanes between_circuits statement spoken after_line first_fault
even_turn = refl

-- a lane in a circuit
lane_inside : after_line (place.InCircuit draft begun) (codes "lane") ≡ Err reason.Word
unfolding numbers draft begun parts_at number digits_behind numbers_behind words is_skipped seed_statement present_statement rising is_name circuit_statement plain input_statement const_node operands neg_node rot_statement other_node circuit_end in_circuit lane_statement lone_party hold_line lone_line lane_line lane_end in_lane workers_statement done_statement between_lanes between_circuits statement spoken after_line first_fault
lane_inside = refl

-- instance 0
no_instance : after_line (place.InLane draft []) (codes "hold 1 0") ≡ Err reason.Id
unfolding numbers draft begun parts_at number digits_behind numbers_behind words is_skipped seed_statement present_statement rising is_name circuit_statement plain input_statement const_node operands neg_node rot_statement other_node circuit_end in_circuit lane_statement lone_party hold_line lone_line lane_line lane_end in_lane workers_statement done_statement between_lanes between_circuits statement spoken after_line first_fault
no_instance = refl

-- nine workers
nine_workers : after_line (place.Circuits draft) (codes "workers 9 0") ≡ Err reason.Limit
unfolding numbers draft begun parts_at number digits_behind numbers_behind words is_skipped seed_statement present_statement rising is_name circuit_statement plain input_statement const_node operands neg_node rot_statement other_node circuit_end in_circuit lane_statement lone_party hold_line lone_line lane_line lane_end in_lane workers_statement done_statement between_lanes between_circuits statement spoken after_line first_fault
nine_workers = refl

-- a sum
sum : after_line (place.InCircuit draft begun) (codes "add 0 1") ≡ Ok (place.InCircuit draft (record { name = codes "c"; nodes = node.Input 1 ∷ node.Input 2 ∷ node.Add 0 1 ∷ []; values = [] }))
unfolding numbers draft begun parts_at number digits_behind numbers_behind words is_skipped seed_statement present_statement rising is_name circuit_statement plain input_statement const_node operands neg_node rot_statement other_node circuit_end in_circuit lane_statement lone_party hold_line lone_line lane_line lane_end in_lane workers_statement done_statement between_lanes between_circuits statement spoken after_line first_fault
sum = refl

-- a line of a lane
held : after_line (place.InLane draft []) (codes "hold 3 7") ≡ Ok (place.InLane (record draft { lines = 1 }) (line.Hold 3 7 ∷ []))
unfolding numbers draft begun parts_at number digits_behind numbers_behind words is_skipped seed_statement present_statement rising is_name circuit_statement plain input_statement const_node operands neg_node rot_statement other_node circuit_end in_circuit lane_statement lone_party hold_line lone_line lane_line lane_end in_lane workers_statement done_statement between_lanes between_circuits statement spoken after_line first_fault
held = refl
