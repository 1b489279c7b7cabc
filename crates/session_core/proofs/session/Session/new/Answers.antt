-- A session begins with no history, and what it keeps is honest.
use Rattle.std.proofs.Common.{◌≡◌, ◌∙◌, sym, ap, subst}
use Rattle.session_rules.specs.States.{opening}
use Rattle.session_spec.specs.Settings.{Setting, NeedsNoSwitch, rules}
use Rattle.session_spec.specs.Stores.{empty}
use Rattle.session_state.specs.Parts.{setting_by}
use Rattle.session_state.specs.Standings.{setting, rules_of, state, store}
use Rattle.session_core.proofs.Grown.{opened, sound_first}
use Rattle.session_core.proofs.session.Session.new.Goals as goal

pub invariant_of-result : goal.invariant_of-result
invariant_of-result g c =
    let ok = c.in_ok-standing.ensures in let st = c.in_ok-standing.standing in let r = c.requires in
    let first : state st ≡ opening (rules_of st) = ok.state ∙ ap (λ (w : Setting). opening (rules w)) (sym ok.setting) in
    let keeps : store st ≡ empty (setting st) = ok.store ∙ ap (λ (w : Setting). empty w) (sym ok.setting) in
    let offers : st.circuits ≡ c.args.circuits = ap (λ (w : Setting). w.offers) ok.setting in
    let setting_is = ok.setting ∙ ap (λ z. setting_by c.args.ring.value.params z c.args.circuits) c.public.ensures in
    let leads = opened st c.new-2.result.items c.new-2.ensures.items first in
    record {
      public_is = ap (λ (w : Setting). w.public) ok.setting ∙ c.public.ensures;
      legal = leads.legal;
      state_is = leads.state_is;
      sound = sound_first _ _ c.args.max_calls st c.new-2.result.items c.new-2.ensures.items r.some_calls r.most_calls
          (rw setting_is r.modest) (subst NeedsNoSwitch (sym setting_is) r.free) (λ t. rw (ok.params, offers) (r.values t)) first keeps;
    }
