-- The instances that lack the share are given up, with the first round of a second one, and the circuits are as they
-- stand.
use Rattle.std.proofs.Common.{◌≡◌, ◌∙◌, sym, ap, subst, refl, ℕ, map, Option}
use Rattle.std.proofs.lemmas.List.{length-map}
use Rattle.mod_ring.specs.declared.ring.Ring.{Ring}
use Rattle.session_rules.specs.States.{State}
use Rattle.session_state.specs.Issuings.{IsPlanned}
use Rattle.session_state.specs.Losings.{without}
use Rattle.session_state.specs.Standings.{rules_of, state, store}
use Rattle.session_state.proofs.Asked.{needed_few}
use Rattle.session_state.proofs.Firsts.{firsts_without}
use Rattle.session_state.proofs.Losses.{lost_is}
use Rattle.session_state.proofs.Planned.{plan_for, plan_from, ok_then}
use Rattle.session_state.proofs.standing.Standing.planned_without.Goals as goal

pub plan-requires-clause-few_keys : goal.plan-requires-clause-few_keys
plan-requires-clause-few_keys c = rw c.as_slice.ensures.value (needed_few c.args.self.now)

pub plan-requires-clause-instances : goal.plan-requires-clause-instances
plan-requires-clause-instances c =
    let is = c.args.self.now.table.instances.items in
    let all = map (without c.args.p c.args.first) is in
    record {
      all = all;
      alive = c.in_ok-live.ensures;
      number = c.issued.ensures ∙ sym (length-map is (without c.args.p c.args.first));
      firsts = rw c.held.ensures (firsts_without is c.args.p c.args.first c.requires.kept.numbered);
    }

pub returns-clause-planned : goal.returns-clause-planned
returns-clause-planned c =
    let st = c.args.self.now in
    let s = state st in
    let f = rules_of st in
    let p = c.args.p in
    let present = c.without-present.result.bits in
    let is = map (without p c.args.first) s.instances in
    let ring : c.deref.result.now.params ≡ st.params = ap (λ (r : Ring). r.params) c.deref.ensures ∙ st.ring_is in
    let lost = lost_is f s p present is c.requires.kept c.without-present.ensures (ap (λ (first : Option ℕ). map (without p first) s.instances) c.requires.first) in
    ok_then c.plan.result _ _ (λ x h. subst (λ (t : State). IsPlanned st.params f t (store st) x.steps.items) lost
    (plan_from st.params f _ _ (store st) x.steps.items (rw c.held.ensures refl) (rw c.held.ensures refl)
    (plan_for c.deref.result.now.params st.params st.rules f present is is
    st.given.items c.as_slice-2.result.now st.states.items _ x.steps.items ring st.rules_are refl c.as_slice-2.ensures.value h)))
    (c.plan.ensures.planned is c.in_ok-live.ensures (c.issued.ensures ∙ sym (length-map s.instances (without p c.args.first))))
