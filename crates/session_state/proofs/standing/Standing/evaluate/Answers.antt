-- A circuit that is evaluated has its output.
use Rattle.std.proofs.Common.{◌∙◌, sym, ap, refl, ◌<◌, length, arith, length-set}
use Rattle.session_rules.specs.declared.state.CircuitState.TheVariants.{Evaluated}
use Rattle.session_spec.specs.Stores.{with_output}
use Rattle.session_state.specs.Standings.{setting, state, store}
use Rattle.session_state.proofs.Ended.{ended_matches, ended_holds, ended_key}
use Rattle.session_state.proofs.standing.Standing.evaluate.Goals as goal

pub invariant_of-self : goal.invariant_of-self
unfolding with_output
invariant_of-self c =
    let st = c.args.self.now in let n = c.args.circuit in let ct = c.args.ct in
    let w = setting st in let s = state st in let h = store st in
    let outputs = st.matches.outputs in let lengths = st.lengths in
    let place : n < length h.outputs = omega (arith, c.requires.there) in
    record {
      ring_is = st.ring_is;
      groups_are = st.groups_are;
      grouped = st.grouped;
      table_is = st.table_is;
      rules_are = st.rules_are;
      needed_are = st.needed_are;
      setting_is = st.setting_is;
      few = st.few;
      lengths = (st.lengths.0, st.lengths.1, ap length c.requires.states ∙ length-set st.states.items n Evaluated ∙ st.lengths.2);
      few_inputs = st.few_inputs;
      few_turns = st.few_turns;
      matches = rw (c.requires.states, c.set.ensures) (ended_matches w s h n ct st.matches);
      holds = rw (c.requires.states, c.set.ensures) (ended_holds st.params s h n ct c.requires.fits place c.requires.there st.holds);
      keyed = rw c.set.ensures (st.keyed ∙ sym (ended_key w h n ct st.table.instances.items));
    }

pub returns-clause-store : goal.returns-clause-store
unfolding with_output
returns-clause-store c = rw c.set.ensures refl
