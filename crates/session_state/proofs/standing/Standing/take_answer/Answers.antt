-- The last share of a decryption answers its circuit.
use Rattle.std.proofs.Common.{◌∙◌, sym, ap, refl, ◌<◌, length, arith, length-set}
use Rattle.session_spec.specs.Stores.{with_rows, with_answer, opened}
use Rattle.session_state.specs.Standings.{setting, rules_of, state, store}
use Rattle.session_state.proofs.Counting.{awaited, wanted_rows}
use Rattle.session_state.proofs.LastShares.{evaluated_there, was_evaluated, last_matches, dec_circuits, dec_holds, dec_not_key, same_keyed}
use Rattle.session_state.proofs.standing.Standing.take_answer.Goals as goal

pub count-requires-clause-awaited : goal.count-requires-clause-awaited
count-requires-clause-awaited c =
    awaited _ _ c.args.share.now.id c.args.share.now.party _ c.args.instance.now c.requires.kept c.requires.wanted

pub count-requires-clause-number : goal.count-requires-clause-number
count-requires-clause-number c =
    let share = c.args.share.now in
    wanted_rows c.args.self.now share.id share.party (length share.rows) c.args.instance.now c.requires.wanted

pub invariant_of-self : goal.invariant_of-self
invariant_of-self c =
    let st = c.args.self.now in
    let id = c.args.share.now.id in let p = c.args.share.now.party in let rows = c.args.share.now.rows in
    let i = c.args.instance.now in
    let q = c.deref.result.now.params.q in let n = c.deref.result.now.params.n in
    let k = c.requires.kept in let want = c.requires.wanted in let last = c.requires.last in
    let e = c.count.ensures in
    let f = rules_of st in let s = state st in let h = store st in
    let made = c.requires.made in
    let dec = dec_circuits st.params f s id p (length rows) i k want last c.args.circuit made.signature in
    let evaluated = was_evaluated st.params f s id p (length rows) i k want last c.args.circuit made.signature in
    let within = evaluated_there st.states.items c.args.circuit evaluated in
    let many = st.matches.answers in let few = st.lengths in
    let there : c.args.circuit < length h.answers = omega arith in
    record {
      ring_is = st.ring_is;
      groups_are = st.groups_are;
      grouped = rw e.briefs st.grouped;
      table_is = e.ring ∙ st.table_is;
      rules_are = st.rules_are;
      needed_are = st.needed_are;
      setting_is = st.setting_is;
      few = st.few;
      lengths = (st.lengths.0, st.lengths.1, ap length c.requires.states ∙ ap length dec ∙ length-set st.states.items _ _ ∙ st.lengths.2);
      few_inputs = st.few_inputs;
      few_turns = st.few_turns;
      matches = rw (e.instances, e.briefs, e.sums, c.requires.states, c.set.ensures) (last_matches st.params f s id p (length rows) i k want last (setting st) h q n rows _ (length-set h.answers _ _) st.matches);
      holds = rw (e.instances, e.briefs, e.sums, c.requires.states, c.set.ensures) (dec_holds st.params f s id p (length rows) i k want last h q n rows _ c.args.value made.signature there made.fits st.holds);
      keyed = rw (e.instances, e.briefs, e.sums, c.set.ensures) (st.keyed ∙ sym (same_keyed st.params f s id p (length rows) i k want last (setting st) h q n rows _ (dec_not_key i.signature c.args.circuit made.signature)));
    }

pub returns-clause-store : goal.returns-clause-store
unfolding with_rows with_answer opened
returns-clause-store c =
    let st = c.args.self.now in
    rw (c.count.ensures.briefs, c.count.ensures.sums, c.deref.ensures, st.ring_is, c.requires.made.signature, c.set.ensures, c.requires.made.value) refl

pub set-requires : goal.set-requires
set-requires c =
    let st = c.args.self.now in let made = c.requires.made in
    let evaluated = was_evaluated st.params (rules_of st) (state st) c.args.share.now.id c.args.share.now.party (length c.args.share.now.rows) c.args.instance.now
    c.requires.kept c.requires.wanted c.requires.last c.args.circuit made.signature in
    let within = evaluated_there st.states.items c.args.circuit evaluated in
    let many = st.matches.answers in let few = st.lengths in
    omega arith
