-- Of the circuits one is evaluated, and has its output.
use Rattle.std.proofs.Common.{◌≡◌, ◌∙◌, ap, refl, set}
use Rattle.mod_ring.specs.declared.ring.Ring.{Ring}
use Rattle.session_rules.specs.declared.state.CircuitState.TheVariants.{Evaluated}
use Rattle.session_spec.specs.Stores.{with_output}
use Rattle.session_state.specs.Standings.{rules_of, store}
use Rattle.session_state.proofs.Planned.{plan_for, plan_from, ok_then}
use Rattle.session_state.proofs.Asked.{needed_few}
use Rattle.session_state.proofs.Firsts.{firsts_stand}
use Rattle.session_state.proofs.standing.Standing.planned_once.Goals as goal

pub plan-requires-clause-few_keys : goal.plan-requires-clause-few_keys
plan-requires-clause-few_keys c = rw c.as_slice.ensures.value (needed_few c.args.self.now)

pub plan-requires-clause-instances : goal.plan-requires-clause-instances
plan-requires-clause-instances c =
    let is = c.args.self.now.table.instances.items in
    record { all = is; alive = c.in_ok-live.ensures; number = c.issued.ensures; firsts = firsts_stand is c.requires.kept.numbered }

pub returns-clause-planned : goal.returns-clause-planned
unfolding with_output
returns-clause-planned c =
    let st = c.args.self.now in
    let is = st.table.instances.items in
    let ring : c.deref.result.now.params ≡ st.params = ap (λ (r : Ring). r.params) c.deref.ensures ∙ st.ring_is in
    let f = rules_of st in
    ok_then c.plan.result _ _ (λ x h. plan_from st.params f _ _ (with_output c.args.circuit c.args.ct.now (store st)) x.steps.items refl refl
    (plan_for c.deref.result.now.params st.params st.rules f st.present.bits is is
    st.given.items c.args.states.now (set st.states.items c.args.circuit Evaluated) _ x.steps.items ring st.rules_are refl c.requires.states h))
    (c.plan.ensures.planned is c.in_ok-live.ensures c.issued.ensures)
