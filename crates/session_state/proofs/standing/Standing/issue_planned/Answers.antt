-- What is issued stands behind the others, of which first rounds may be given up.
use Rattle.std.proofs.Common.{◌≡◌, ◌∙◌, sym, subst, List, ◌++◌, map, fold}
use Rattle.instance_table.specs.declared.table.Table.{Table}
use Rattle.session_rules.specs.States.{State}
use Rattle.session_rules.specs.Issues.{issue, instances_after}
use Rattle.session_rules.specs.Facts.{Kept}
use Rattle.session_rules.proofs.Keeps.{issue_next}
use Rattle.session_state.specs.Issuings.{move_of, issued, brief_of, sums_of, IsPlanned}
use Rattle.session_state.specs.Parts.{store_by}
use Rattle.session_state.specs.Standings.{setting, rules_of, state, store}
use Rattle.session_state.specs.declared.issuing.Step.{Step}
use Rattle.session_state.specs.declared.standing.Standing.{Standing}
use Rattle.session_state.proofs.Growth.{IsIssued, AreSums, Grows, issued_state, grows}
use Rattle.session_state.proofs.Firsts.{can_move}
use Rattle.session_state.proofs.Steps.{all_of_first}
use Rattle.session_state.proofs.standing.Standing.issue_planned.Goals as goal

record Issued (st : Standing) (t : Table) : Type 0 where
  state_is : record (state st) { instances = t.instances.items } ≡ issue (rules_of st) (state st)
  grows_so : Grows st.params (setting st) (state st) t.instances.items (store st) (store_by t.briefs.items t.sums.items st.inputs.items st.outputs st.answers)

have_sums : (st : Standing) → AreSums st.params st.table.instances.items st.table.sums.items
have_sums st = rw (← st.table_is) (record { rows = st.table.rows; fits = st.table.fits })

issues : (st : Standing) (t : Table) (xs : List Step) → Kept (rules_of st) (state st) → IsPlanned st.params (rules_of st) (state st) (store st) xs
    → t.instances.items ≡ fold instances_after st.table.instances.items (map move_of xs) → t.briefs.items ≡ st.table.briefs.items ++ map brief_of (issued xs)
    → t.sums.items ≡ st.table.sums.items ++ map sums_of (issued xs) → Issued st t
issues st t xs k planned instances briefs sums =
    let js = t.instances.items in let f = rules_of st in
    let r : IsIssued st.params f (state st) js (store st) st.table.briefs.items t.briefs.items st.table.sums.items t.sums.items xs = record { planned = planned; instances = instances; briefs_are = briefs; sums_are = sums } in
    let said = issued_state st.params f (state st) js (store st) st.table.briefs.items t.briefs.items st.table.sums.items t.sums.items xs r in
    record {
      state_is = said;
      grows_so = grows st.params st.public st.circuits f (state st) js st.inputs.items st.outputs st.answers
          st.table.briefs.items t.briefs.items st.table.sums.items t.sums.items xs r st.matches st.holds (have_sums st) k
          (subst (λ (s : State). Kept f s) (sym said) (issue_next f (state st) k).0);
    }

pub carry_out-requires-clause-moves : goal.carry_out-requires-clause-moves
carry_out-requires-clause-moves c = can_move (rules_of c.args.self.now) (state c.args.self.now) (map move_of c.args.issuing.steps.items) c.requires.kept c.requires.planned.moves

pub carry_out-requires-clause-ids : goal.carry_out-requires-clause-ids
carry_out-requires-clause-ids c = c.requires.planned.ids

pub carry_out-requires-clause-fresh : goal.carry_out-requires-clause-fresh
carry_out-requires-clause-fresh c = rw c.args.self.now.table_is c.requires.planned.fresh

pub invariant_of-self : goal.invariant_of-self
invariant_of-self c =
    let st = c.args.self.now in
    let e = c.carry_out.ensures in
    let g = (issues st c.carry_out.new.table c.args.issuing.steps.items c.requires.kept c.requires.planned e.instances e.briefs e.sums).grows_so in
    record {
      ring_is = st.ring_is;
      groups_are = st.groups_are;
      grouped = rw e.briefs (all_of_first st.params st.table.briefs.items (issued c.args.issuing.steps.items) st.grouped c.requires.planned.fresh);
      table_is = e.ring ∙ st.table_is;
      rules_are = st.rules_are;
      needed_are = st.needed_are;
      setting_is = st.setting_is;
      few = st.few;
      lengths = st.lengths;
      few_inputs = st.few_inputs;
      few_turns = st.few_turns;
      matches = g.matches;
      holds = g.holds;
      keyed = st.keyed ∙ sym g.keyed;
    }

pub returns-clause-state : goal.returns-clause-state
returns-clause-state c =
    let e = c.carry_out.ensures in
    (issues c.args.self.now c.carry_out.new.table c.args.issuing.steps.items c.requires.kept c.requires.planned e.instances e.briefs e.sums).state_is

pub returns-clause-store : goal.returns-clause-store
returns-clause-store c =
    let e = c.carry_out.ensures in
    (issues c.args.self.now c.carry_out.new.table c.args.issuing.steps.items c.requires.kept c.requires.planned e.instances e.briefs e.sums).grows_so.store
