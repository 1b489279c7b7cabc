-- Room changes nothing of what stands.
use Rattle.std.proofs.Common.{◌∙◌}
use Rattle.session_state.proofs.standing.Standing.room.Goals as goal

pub invariant_of-self : goal.invariant_of-self
invariant_of-self c =
    let st = c.args.self.now in
    let e = c.room.ensures in
    record {
      ring_is = st.ring_is;
      groups_are = st.groups_are;
      grouped = rw e.briefs st.grouped;
      table_is = e.ring ∙ st.table_is;
      rules_are = st.rules_are;
      needed_are = st.needed_are;
      setting_is = st.setting_is;
      few = st.few;
      lengths = st.lengths;
      few_inputs = st.few_inputs;
      few_turns = st.few_turns;
      matches = rw (e.instances, e.briefs, e.sums) st.matches;
      holds = rw (e.instances, e.briefs, e.sums) st.holds;
      keyed = rw (e.instances, e.briefs, e.sums) st.keyed;
    }
