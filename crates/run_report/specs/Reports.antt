-- The whole report of a script, for a history of its session.
use Rattle.std.specs.Prelude.{ℕ, cond, List, [], ◌++◌, map, length, slice_index_or, codes, decimal, Some}
use Rattle.std.specs.List.{range_with_len, flat_map}
use Rattle.draw_spec.specs.Streams.{party_seed}
use Rattle.param_set.specs.Numbers.{Numbers as Bounding}
use Rattle.cipher_spec.specs.Keys.{Keys}
use Rattle.noise_ledger.specs.declared.over.Place.{Place}
use Rattle.noise_ledger.specs.declared.over.Place.TheVariants.{Node as AtNode, Output}
use Rattle.proto_names.specs.declared.instance.Instance.{Instance}
use Rattle.party_roll.specs.Seeds.{seeds_of}
use Rattle.session_rules.specs.declared.state.CircuitState.{CircuitState}
use Rattle.session_rules.specs.declared.state.CircuitState.TheVariants.{Refused, Idle, Taken, Evaluated, Answered}
use Rattle.session_rules.specs.declared.call.Entry.{Entry}
use Rattle.session_rules.specs.States.{State, circuit}
use Rattle.session_rules.specs.Facts.{is_settled}
use Rattle.session_rules.specs.Histories.{state_after}
use Rattle.session_script.specs.Asked.{Asked, Named}
use Rattle.session_spec.specs.Settings.{Setting, Offer, rules, plain_at}
use Rattle.session_spec.specs.Outputs.{keys_in, output_of, sums_of}
use Rattle.event_lines.specs.Instances.{instance_line}
use Rattle.event_lines.specs.Events.{event_line}
use Rattle.run_report.specs.Digests.{polys_digest}
use Rattle.run_report.specs.Lines.{circuit_line, output_line}

-- ---- what a script asks for, as the setting of a session

abbrev pub bounding : Asked → Bounding
bounding a = record {
  n = a.numbers.n;
  q = a.numbers.q;
  t = a.numbers.t;
  digit_bits = a.numbers.digit_bits;
  balanced = a.numbers.balanced;
  err = a.numbers.err;
  flood = a.numbers.flood;
  parties = a.numbers.parties;
  threshold = a.numbers.threshold;
}

abbrev pub offered : Named → Offer
offered c = record { nodes = c.nodes; values = Some c.values }

-- the public seed is that of the number 0
unfoldable pub setting_asked : Asked → Setting
setting_asked a = record { numbers = bounding a; public = party_seed a.master 0; offers = map offered a.circuits }

-- the seeds of its parties
abbrev pub seeds_asked : Asked → List (List ℕ)
seeds_asked a = seeds_of a.master a.numbers.parties

-- the keys of circuit c in a state
abbrev pub keys_asked : Asked → State → ℕ → Keys
keys_asked a s c = keys_in (setting_asked a) (seeds_asked a) s.instances c

-- ---- a circuit

-- the place that is too noisy: `node K` or `output`
abbrev pub place_text : Place → List ℕ
place_text (AtNode k) = codes "node " ++ decimal k
place_text Output = codes "output"

-- `circuit NAME refused PLACE bound B limit L`
unfoldable pub refused_line : List ℕ → Place → ℕ → ℕ → List ℕ
refused_line name place bound limit =
    codes "circuit " ++ name ++ codes " refused " ++ place_text place ++ codes " bound " ++ decimal bound ++ codes " limit " ++ decimal limit ++ codes "\n"

-- `circuit NAME open`
unfoldable pub open_line : List ℕ → List ℕ
open_line name = codes "circuit " ++ name ++ codes " open\n"

-- by how far it has come, with its plain value
unfoldable pub state_line : List ℕ → List ℕ → CircuitState → List ℕ
state_line name value (Refused place bound limit) = refused_line name place bound limit
state_line name value Idle = open_line name
state_line name value (Taken caller) = open_line name
state_line name value Evaluated = open_line name
state_line name value Answered = circuit_line name value

abbrev pub name_at : Asked → ℕ → List ℕ
name_at a c = (slice_index_or a.circuits c (record { name = []; nodes = []; values = [] })).name

unfoldable pub circuit_text : Asked → State → ℕ → List ℕ
circuit_text a s c = state_line (name_at a c) (plain_at (setting_asked a) c) (circuit s.circuits c)

-- its output, if it is evaluated or answered
unfoldable pub output_text : Asked → State → ℕ → List ℕ
output_text a s c =
    cond (is_settled (circuit s.circuits c))
    (output_line (name_at a c) (output_of (setting_asked a) (seeds_asked a) (keys_asked a s c) c)) []

-- ---- an instance, with the digest of the sums of honest shares

unfoldable pub instance_text : Asked → State → Instance → List ℕ
instance_text a s i =
    instance_line i (polys_digest (sums_of (setting_asked a) (seeds_asked a) (keys_asked a s) i))

-- ---- the report: circuits, outputs, instances, events

abbrev pub places : Asked → List ℕ
places a = range_with_len 0 (length a.circuits)

unfoldable pub report_in : Asked → State → List Entry → List ℕ
report_in a s log =
    flat_map (circuit_text a s) (places a) ++ flat_map (output_text a s) (places a) ++ flat_map (instance_text a s) s.instances ++ flat_map event_line log

unfoldable pub report : Asked → List Entry → List ℕ
report a log = report_in a (state_after (rules (setting_asked a)) log) log
