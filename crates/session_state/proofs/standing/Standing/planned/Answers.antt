-- The instances with the share, and the circuits as far as they have come then.
use Rattle.std.proofs.Common.{◌≡◌, ◌∙◌, sym, ap, refl, ℕ, true, ◌-◌, ◌<◌, List, [], set, get_or, length, Some, arith}
use Rattle.std.specs.Prelude.{All}
use Rattle.std.proofs.lemmas.List.{get_or-set_same}
use Rattle.std.proofs.lemmas.List.Elements.{All-set}
use Rattle.mod_ring.specs.declared.ring.Ring.{Ring}
use Rattle.session_rules.specs.declared.state.CircuitState.{CircuitState}
use Rattle.session_rules.specs.declared.state.CircuitState.TheVariants.{Evaluated}
use Rattle.session_rules.specs.States.{circuit}
use Rattle.proto_names.specs.Instances.{instance, after_share}
use Rattle.proto_names.specs.declared.instance.Instance.{Instance}
use Rattle.session_rules.specs.Deeds.{answered_by}
use Rattle.session_rules.specs.Facts.{is_settled}
use Rattle.session_spec.specs.Stores.{held_sums, with_rows}
use Rattle.instance_table.specs.Tables.{rows_sum, after_rows}
use Rattle.ring_spec.specs.Ring.{IsPoly}
use Rattle.session_state.specs.Standings.{setting, rules_of, state, store}
use Rattle.session_state.specs.declared.standing.Standing.{Standing}
use Rattle.session_state.proofs.Firsts.{firsts_counted}
use Rattle.session_state.proofs.Counting.{awaited, stands_at}
use Rattle.session_state.proofs.Planned.{plan_for, plan_from, ok_then}
use Rattle.session_state.proofs.LastShares.{evaluated_there}
use Rattle.session_state.proofs.Asked.{needed_few, same_number, answered_length, evaluated_before}
use Rattle.session_state.proofs.standing.Standing.planned.Goals as goal

pub live_with_share-requires : goal.live_with_share-requires
live_with_share-requires c =
    let st = c.args.self.now in
    awaited _ _ c.args.share.now.id c.args.share.now.party _ c.args.instance.now c.requires.kept c.requires.wanted

pub plan-requires-clause-plans : goal.plan-requires-clause-plans
plan-requires-clause-plans c =
    let st = c.args.self.now in
    st.lengths.0 ∙ sym st.lengths.2 ∙ sym (answered_length c.args.instance.now.signature st.states.items) ∙ ap length (sym c.requires.states)

pub plan-requires-clause-few : goal.plan-requires-clause-few
plan-requires-clause-few c =
    let st = c.args.self.now in
    let many : length c.args.states.now ≡ length st.circuits = ap length c.requires.states ∙ answered_length c.args.instance.now.signature st.states.items ∙ st.lengths.2 in
    let few = st.few in
    omega arith

pub plan-requires-clause-few_keys : goal.plan-requires-clause-few_keys
plan-requires-clause-few_keys c = rw c.as_slice.ensures.value (needed_few c.args.self.now)

-- all instances with the share, of which there are as many
with_share : (st : Standing) (id p : ℕ) → length st.table.instances.items ≡ length (after_share id p st.table.instances.items)
with_share st id p = sym (same_number id p st.table.instances.items)

pub plan-requires-clause-instances : goal.plan-requires-clause-instances
plan-requires-clause-instances c =
    let st = c.args.self.now in let share = c.args.share.now in
    record {
      all = after_share share.id share.party st.table.instances.items;
      alive = c.in_ok-live.ensures;
      number = c.issued.ensures ∙ with_share st share.id share.party;
      firsts = firsts_counted (rules_of st) (state st) share.id share.party (length share.rows) c.args.instance.now c.requires.kept c.requires.wanted;
    }

-- the sums of all instances once the share is added to those of its own
sums_now : (st : Standing) (id : ℕ) (i : Instance) (rows sums : List (List ℕ)) → instance st.table.instances.items id ≡ Some i
    → sums ≡ held_sums (with_rows (setting st) id rows (store st)) id → set st.table.sums.items (id - 1) sums ≡ (with_rows (setting st) id rows (store st)).sums
unfolding with_rows after_rows
sums_now st id i rows sums found e =
    let xs = st.table.sums.items in
    let w = (setting st).numbers in
    let within = (stands_at st.table.instances.items id i found).within in
    let many : length xs ≡ length st.table.instances.items = st.matches.sums in
    let l : id - 1 < length xs = omega arith in
    ap (set xs (id - 1)) (e ∙ get_or-set_same xs (id - 1) (rows_sum w.q w.n (get_or xs (id - 1) []) rows) [] l)

pub overflow_sub-source : goal.overflow_sub-source
overflow_sub-source c =
    (stands_at c.args.self.now.table.instances.items c.args.share.now.id c.args.instance.now c.requires.wanted.issued).first

pub plan-requires-clause-sums : goal.plan-requires-clause-sums
plan-requires-clause-sums c =
    let st = c.args.self.now in
    let ring : c.deref.result.now.params ≡ st.params = ap (λ (r : Ring). r.params) c.deref.ensures ∙ st.ring_is in
    rw ring (All-set (All (IsPoly st.params.q st.params.n)) st.table.sums.items (c.args.share.now.id - 1) c.args.sums.now c.requires.fits (rw (← st.table_is) st.table.fits))

pub plan-requires-clause-outputs : goal.plan-requires-clause-outputs
plan-requires-clause-outputs c place e =
    let st = c.args.self.now in
    let ring : c.deref.result.now.params ≡ st.params = ap (λ (r : Ring). r.params) c.deref.ensures ∙ st.ring_is in
    let before : circuit st.states.items place ≡ Evaluated =
    evaluated_before c.args.instance.now.signature st.states.items place (sym (ap (λ (xs : List CircuitState). circuit xs place) c.requires.states) ∙ e) in
    let settled : is_settled (circuit st.states.items place) ≡ true = rw before refl in
    rw ring (st.holds.outputs place (evaluated_there st.states.items place before) settled)

pub returns-clause-planned : goal.returns-clause-planned
unfolding with_rows
returns-clause-planned c =
    let st = c.args.self.now in
    let ring : c.deref.result.now.params ≡ st.params = ap (λ (r : Ring). r.params) c.deref.ensures ∙ st.ring_is in
    let f = rules_of st in
    let h = with_rows (setting st) c.args.share.now.id c.args.share.now.rows (store st) in
    let is = after_share c.args.share.now.id c.args.share.now.party st.table.instances.items in
    ok_then c.plan.result _ _ (λ x r. plan_from st.params f _ _ h x.steps.items (sums_now st c.args.share.now.id c.args.instance.now c.args.share.now.rows c.args.sums.now c.requires.wanted.issued c.requires.sums) refl
    (plan_for c.deref.result.now.params st.params st.rules f st.present.bits is is
    st.given.items c.args.states.now (answered_by c.args.instance.now.signature st.states.items) _ x.steps.items ring st.rules_are refl c.requires.states r))
    (c.plan.ensures.planned is c.in_ok-live.ensures (c.issued.ensures ∙ with_share st c.args.share.now.id c.args.share.now.party))
