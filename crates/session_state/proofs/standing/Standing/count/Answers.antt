-- A share that isn't the last adds its rows to the sums of its instance, and completes nothing.
use Rattle.std.proofs.Common.{◌∙◌, sym, refl, length}
use Rattle.session_spec.specs.Stores.{with_rows}
use Rattle.session_state.specs.Standings.{setting, rules_of, state, store}
use Rattle.session_state.proofs.Counting.{awaited, wanted_rows, more_matches, more_holds, more_keyed}
use Rattle.session_state.proofs.standing.Standing.count.Goals as goal

pub count-requires-clause-awaited : goal.count-requires-clause-awaited
count-requires-clause-awaited c =
    awaited _ _ c.args.share.now.id c.args.share.now.party _ c.args.instance.now c.requires.kept c.requires.wanted

pub count-requires-clause-number : goal.count-requires-clause-number
count-requires-clause-number c =
    let share = c.args.share.now in
    wanted_rows c.args.self.now share.id share.party (length share.rows) c.args.instance.now c.requires.wanted

pub invariant_of-self : goal.invariant_of-self
invariant_of-self c =
    let st = c.args.self.now in
    let id = c.args.share.now.id in let p = c.args.share.now.party in let rows = c.args.share.now.rows in
    let i = c.args.instance.now in
    let q = c.deref.result.now.params.q in let n = c.deref.result.now.params.n in
    let k = c.requires.kept in let want = c.requires.wanted in let more = c.requires.more in
    let e = c.count.ensures in
    let f = rules_of st in let s = state st in let h = store st in
    record {
      ring_is = st.ring_is;
      groups_are = st.groups_are;
      grouped = rw e.briefs st.grouped;
      table_is = e.ring ∙ st.table_is;
      rules_are = st.rules_are;
      needed_are = st.needed_are;
      setting_is = st.setting_is;
      few = st.few;
      lengths = st.lengths;
      few_inputs = st.few_inputs;
      few_turns = st.few_turns;
      matches = rw (e.instances, e.briefs, e.sums) (more_matches st.params f s id p (length rows) i k want more (setting st) h q n rows st.matches);
      holds = rw (e.instances, e.briefs, e.sums) (more_holds st.params f s id p (length rows) i k want more h q n rows st.holds);
      keyed = rw (e.instances, e.briefs, e.sums) (st.keyed ∙ sym (more_keyed st.params f s id p (length rows) i k want more (setting st) h q n rows));
    }

pub returns-clause-store : goal.returns-clause-store
unfolding with_rows
returns-clause-store c =
    let st = c.args.self.now in
    rw (c.count.ensures.briefs, c.count.ensures.sums, c.deref.ensures, st.ring_is) refl
