-- A deed that is done: what it changes by itself is kept, and what is issued then is what the rules say.
use Rattle.std.proofs.Common.{◌≡◌, ◌∙◌, sym, ap, subst, ℕ, true, false}
use Rattle.session_rules.specs.declared.call.Call.{Call}
use Rattle.session_rules.specs.declared.deed.Deed.{Deed}
use Rattle.session_rules.specs.declared.deed.Verdict.{Verdict}
use Rattle.session_rules.specs.declared.fixed.Fixed.{Fixed}
use Rattle.session_rules.specs.declared.reply.Reply.{Reply}
use Rattle.session_rules.specs.States.{State}
use Rattle.session_rules.specs.Issues.{issue}
use Rattle.session_rules.specs.Deeds.{is_nothing, changed, leads_on, done}
use Rattle.session_rules.specs.Steps.{does}
use Rattle.session_rules.specs.Facts.{Kept}
use Rattle.session_rules.specs.Allowed.{Allows}
use Rattle.session_rules.proofs.Keeps.{deed_next}
use Rattle.session_spec.specs.Settings.{Setting, rules}
use Rattle.session_spec.specs.Stores.{Brought, grown, with_deed, store_done}
use Rattle.session_state.specs.Standings.{setting, rules_of, state, store, state_then, store_then}
use Rattle.session_state.specs.declared.standing.Standing.{Standing}
use Rattle.session_state.proofs.Leading.{IsDone, stays, done_leads, done_stays, store_leads, store_stays}

-- a verdict by which nothing is done
pub refused : (st : Standing) (v w : Verdict) (b : Brought) → v ≡ w → is_nothing v.deed ≡ true → (state st ≡ state_then st w) × (store st ≡ store_then st w b)
refused st v w b same none = stays st w b (ap (λ (z : Verdict). is_nothing z.deed) (sym same) ∙ none)

-- one by which something is done
pub verdict_is : (v : Verdict) (r : Reply) (d : Deed) → IsDone v.deed d v.reply r → v ≡ does r d
verdict_is v r d e = ap (λ (z : Reply). does z v.deed) e.reply ∙ ap (does r) e.deed

pub its_deed : (v w : Verdict) (r : Reply) (d : Deed) → v ≡ w → v ≡ does r d → w.deed ≡ d
its_deed v w r d same e = ap (λ (z : Verdict). z.deed) (sym same ∙ e)

pub kept_changed : (f : Fixed) (s : State) (caller : ℕ) (c : Call) (v : Verdict) (d : Deed) → v.deed ≡ d → Allows f s caller c v.reply v.deed → Kept f s → Kept f (changed d s)
kept_changed f s caller c v d its fair k = subst (λ (z : Deed). Kept f (changed z s)) its (deed_next f s caller c v.reply v.deed k fair).0

-- what the last standing has, where the deed doesn't lead on, and where it does
module _ (st last : Standing) (v : Verdict) (d : Deed) (b : Brought) (its : v.deed ≡ d) where
  then_state : state_then st v ≡ done (rules_of st) d (state st)
  then_state = ap (λ (z : Deed). done (rules_of st) z (state st)) its

  then_store : store_then st v b ≡ store_done (setting st) d b (state_then st v).instances (store st)
  then_store = ap (λ (z : Deed). store_done (setting st) z b (state_then st v).instances (store st)) its

  pub ends_state : leads_on d ≡ false → state last ≡ changed d (state st) → state last ≡ state_then st v
  ends_state ends e = e ∙ sym (then_state ∙ done_stays (rules_of st) d (state st) ends)

  pub ends_store : leads_on d ≡ false → store last ≡ with_deed (setting st) d b (store st) → store last ≡ store_then st v b
  ends_store ends e = e ∙ sym (then_store ∙ store_stays (setting st) d b (state_then st v).instances (store st) ends)

  pub issued_state : leads_on d ≡ true → state last ≡ issue (rules_of st) (changed d (state st)) → state last ≡ state_then st v
  issued_state leads e = e ∙ sym (then_state ∙ done_leads (rules_of st) d (state st) leads)

  pub issued_store : leads_on d ≡ true → state last ≡ state_then st v → store last ≡ grown (setting st) (state last).instances (with_deed (setting st) d b (store st)) → store last ≡ store_then st v b
  issued_store leads same e =
      e ∙ ap (λ (s : State). grown (setting st) s.instances (with_deed (setting st) d b (store st))) same
      ∙ sym (then_store ∙ store_leads (setting st) d b (state_then st v).instances (store st) leads)

-- a standing on the way, which has what the deed changes, and the last one, for which is issued what is due
pub record Leads (st mid last : Standing) (d : Deed) (b : Brought) : Type 0 where
  pub about : setting mid ≡ setting st
  pub has_ : state mid ≡ changed d (state st)
  pub keeps : store mid ≡ with_deed (setting st) d b (store st)
  pub issued : state last ≡ issue (rules_of mid) (state mid)
  pub grew : store last ≡ grown (setting mid) (state last).instances (store mid)

module _ (st mid last : Standing) (v : Verdict) (d : Deed) (b : Brought) (its : v.deed ≡ d) (leads : leads_on d ≡ true) (l : Leads st mid last d b) where
  pub leads_state : state last ≡ state_then st v
  leads_state =
      issued_state st last v d b its leads (l.issued ∙ ap (λ (w : Setting). issue (rules w) (state mid)) l.about ∙ ap (issue (rules_of st)) l.has_)

  pub leads_store : store last ≡ store_then st v b
  leads_store = issued_store st last v d b its leads leads_state
      (l.grew ∙ ap (λ (w : Setting). grown w (state last).instances (store mid)) l.about ∙ ap (grown (setting st) (state last).instances) l.keeps)
