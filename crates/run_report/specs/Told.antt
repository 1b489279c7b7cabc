-- The parts of a report, by what a session has at a moment and the master seed of its roll.
use Rattle.std.specs.Prelude.{ℕ, List, [], cond}
use Rattle.draw_spec.specs.Streams.{party_seed}
use Rattle.party_roll.specs.Seeds.{seeds_told}
use Rattle.cipher_spec.specs.Keys.{Keys}
use Rattle.proto_names.specs.declared.instance.Instance.{Instance}
use Rattle.session_rules.specs.States.{circuit}
use Rattle.session_rules.specs.Facts.{is_settled}
use Rattle.session_spec.specs.Settings.{plain_at}
use Rattle.session_spec.specs.Outputs.{keys_in, output_of, sums_of}
use Rattle.session_state.specs.declared.standing.Standing.{Standing}
use Rattle.session_state.specs.Standings.{setting, state}
use Rattle.event_lines.specs.Instances.{instance_line}
use Rattle.run_report.specs.Digests.{polys_digest}
use Rattle.run_report.specs.Lines.{output_line}
use Rattle.run_report.specs.Reports.{state_line}

-- the parties' seeds
abbrev pub seeds_of : Standing → List ℕ → List (List ℕ)
seeds_of st master = seeds_told (party_seed master) st.params.parties

-- the keys of circuit c
abbrev pub keys_told : Standing → List ℕ → ℕ → Keys
keys_told st master c = keys_in (setting st) (seeds_of st master) (state st).instances c

-- the line of a circuit with this name
unfoldable pub told_circuit : List ℕ → Standing → ℕ → List ℕ
told_circuit name st c = state_line name (plain_at (setting st) c) (circuit (state st).circuits c)

-- the line of its output, if it has one
unfoldable pub told_output : List ℕ → Standing → List ℕ → ℕ → List ℕ
told_output name st master c =
    cond (is_settled (circuit (state st).circuits c))
    (output_line name (output_of (setting st) (seeds_of st master) (keys_told st master c) c)) []

-- the digest of the sums of an instance, and its line
unfoldable pub told_digest : Standing → List ℕ → Instance → List ℕ
told_digest st master i =
    polys_digest (sums_of (setting st) (seeds_of st master) (keys_told st master) i)

unfoldable pub told_instance : Standing → List ℕ → Instance → List ℕ
told_instance st master i = instance_line i (told_digest st master i)
