-- The session has the script's circuits, and its state is that after its log.
use Rattle.std.proofs.Common.{◌≡◌, ◌∙◌, [], ◌++◌, rules, arith}
use Rattle.std.specs.List.{flat_map}
use Rattle.session_script.specs.Scripts.{asked}
use Rattle.session_state.specs.Standings.{state}
use Rattle.event_lines.specs.Events.{event_line}
use Rattle.run_report.specs.Reports.{circuit_text, output_text, places}
use Rattle.run_report.specs.Told.{told_instance}
use Rattle.run_report.proofs.Sections.{as_many, numbered_after, whole}
use Rattle.run_report.proofs.report.text.Goals as goal

pub push_circuits-requires-clause-few : goal.push_circuits-requires-clause-few
push_circuits-requires-clause-few c =
    let st = c.args.session.now.standing in
    omega (arith, as_many (asked c.args.script.now) st c.requires.setting, st.few)

pub push_circuits-requires-clause-states : goal.push_circuits-requires-clause-states
push_circuits-requires-clause-states c =
    let st = c.args.session.now.standing in
    st.lengths.2 ∙ as_many (asked c.args.script.now) st c.requires.setting

pub push_outputs-requires-clause-few : goal.push_outputs-requires-clause-few
push_outputs-requires-clause-few c =
    let st = c.args.session.now.standing in
    omega (arith, as_many (asked c.args.script.now) st c.requires.setting, st.few)

pub push_outputs-requires-clause-states : goal.push_outputs-requires-clause-states
push_outputs-requires-clause-states c =
    let st = c.args.session.now.standing in
    st.lengths.2 ∙ as_many (asked c.args.script.now) st c.requires.setting

pub push_instances-requires : goal.push_instances-requires
push_instances-requires c =
    let session = c.args.session.now in
    numbered_after session.standing session.log.items session.state_is

pub returns : goal.returns
returns c =
    let session = c.args.session.now in
    let st = session.standing in
    let a = asked c.args.script.now in
    let joined : c.push_events.new.text.items ≡ [] ++ flat_map (circuit_text a (state st)) (places a) ++ flat_map (output_text a (state st)) (places a) ++ flat_map (told_instance st session.roll.master) (state st).instances ++ flat_map event_line session.log.items =
    search rules in
    joined ∙ whole a st session.roll.master session.log.items c.requires.setting c.requires.seeds session.state_is
