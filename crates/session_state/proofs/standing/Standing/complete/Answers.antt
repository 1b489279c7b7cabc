-- What was planned is planned for the state that the share leads to.
use Rattle.std.proofs.Common.{◌≡◌, ◌∙◌, sym, ap, subst, length, arith}
use Rattle.param_set.specs.declared.params.Params.{Params}
use Rattle.session_rules.specs.declared.fixed.Fixed.{Fixed}
use Rattle.session_rules.specs.States.{State}
use Rattle.session_rules.specs.Facts.{Kept}
use Rattle.session_spec.specs.Settings.{Setting, rules}
use Rattle.session_spec.specs.Stores.{Store, with_rows, with_answer}
use Rattle.session_state.specs.Completions.{last_counted}
use Rattle.session_state.specs.Issuings.{IsPlanned}
use Rattle.session_state.specs.Standings.{setting, rules_of, state, store}
use Rattle.session_state.proofs.Asked.{same_number, answer_sums, answer_outputs}
use Rattle.session_state.proofs.LastShares.{evaluated_there, was_evaluated, last_next}
use Rattle.session_state.proofs.Planned.{plan_from}
use Rattle.session_state.proofs.standing.Standing.complete.Goals as goal

pub made-requires-clause-decrypts : goal.made-requires-clause-decrypts
made-requires-clause-decrypts c circuit e =
    let st = c.args.self.now in
    was_evaluated st.params (rules_of st) (state st) c.args.share.now.id c.args.share.now.party (length c.args.share.now.rows) c.args.instance.now
    c.requires.kept c.requires.wanted c.requires.last circuit e

pub issue_planned-requires-clause-kept : goal.issue_planned-requires-clause-kept
issue_planned-requires-clause-kept c =
    let st = c.args.self.now in let i = c.args.instance.now in let id = c.args.share.now.id in let p = c.args.share.now.party in
    let f : rules_of c.take_in.new.self ≡ rules_of st = ap (λ (w : Setting). rules w) (c.take_in.ensures.setting ∙ c.room.ensures.setting) in
    let s : state c.take_in.new.self ≡ last_counted (state st) i id p =
    c.take_in.ensures.state ∙ ap (λ (z : State). last_counted z i id p) c.room.ensures.state in
    let k = (last_next st.params (rules_of st) (state st) id p (length c.args.share.now.rows) i c.requires.kept c.requires.wanted c.requires.last).0 in
    subst (λ (g : Fixed). Kept g (state c.take_in.new.self)) (sym f) (subst (λ (z : State). Kept (rules_of st) z) (sym s) k)

pub issue_planned-requires-clause-few : goal.issue_planned-requires-clause-few
issue_planned-requires-clause-few c =
    let st = c.args.self.now in let i = c.args.instance.now in let id = c.args.share.now.id in let p = c.args.share.now.party in
    let s : state c.take_in.new.self ≡ last_counted (state st) i id p =
    c.take_in.ensures.state ∙ ap (λ (z : State). last_counted z i id p) c.room.ensures.state in
    let many : length c.take_in.new.self.table.instances.items ≡ length st.table.instances.items =
    ap (λ (z : State). length z.instances) s ∙ same_number id p st.table.instances.items in
    let few = c.in_ok-issuing.ensures.few in
    let room = c.requires.room in
    omega arith

pub issue_planned-requires-clause-planned : goal.issue_planned-requires-clause-planned
issue_planned-requires-clause-planned c =
    let st = c.args.self.now in let i = c.args.instance.now in let id = c.args.share.now.id in let p = c.args.share.now.party in
    let rows = c.args.share.now.rows in let mid = c.room.new.self in let now = c.take_in.new.self in
    let steps = c.in_ok-issuing.issuing.steps.items in
    let q : now.params ≡ st.params = c.take_in.ensures.params ∙ c.room.ensures.params in
    let w : setting mid ≡ setting st = c.room.ensures.setting in
    let f : rules_of now ≡ rules_of st = ap (λ (w : Setting). rules w) (c.take_in.ensures.setting ∙ w) in
    let s : state now ≡ last_counted (state st) i id p =
    c.take_in.ensures.state ∙ ap (λ (z : State). last_counted z i id p) c.room.ensures.state in
    let counted : Store = with_rows (setting st) id rows (store st) in
    let h : store now ≡ with_answer (setting st) id i.signature counted =
    c.take_in.ensures.store ∙ ap (λ (z : Setting). with_answer z id i.signature (with_rows z id rows (store mid))) w
    ∙ ap (λ (z : Store). with_answer (setting st) id i.signature (with_rows (setting st) id rows z)) c.room.ensures.store in
    let sums : counted.sums ≡ (store now).sums = sym (ap (λ (z : Store). z.sums) h ∙ answer_sums (setting st) id i.signature counted) in
    let outputs : counted.outputs ≡ (store now).outputs = sym (ap (λ (z : Store). z.outputs) h ∙ answer_outputs (setting st) id i.signature counted) in
    subst (λ (z : Params). IsPlanned z (rules_of now) (state now) (store now) steps) (sym q)
    (subst (λ (z : Fixed). IsPlanned st.params z (state now) (store now) steps) (sym f)
    (subst (λ (z : State). IsPlanned st.params (rules_of st) z (store now) steps) (sym s)
    (plan_from st.params (rules_of st) (last_counted (state st) i id p) counted (store now) steps sums outputs c.in_ok-issuing.ensures.planned)))

pub states_with-requires : goal.states_with-requires
states_with-requires c =
    let st = c.args.self.now in
    record {
      there = λ circuit e.
          evaluated_there st.states.items circuit
          (was_evaluated st.params (rules_of st) (state st) c.args.share.now.id c.args.share.now.party (length c.args.share.now.rows) c.args.instance.now
          c.requires.kept c.requires.wanted c.requires.last circuit e);
    }
