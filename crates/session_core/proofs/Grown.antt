-- What the history behind a standing tells of it, at first and after a call, and what is known of it where its
-- polynomials are honest.
use Rattle.std.proofs.Common.{◌≡◌, ◌∙◌, sym, ap, subst, refl, ℕ, ◌*◌, ◌<◌, ◌≤◌, List, [], ◌∷◌, ◌++◌, length, arith, Bool, true}
use Rattle.std.proofs.lemmas.Nat.{mul-le}
use Rattle.std.specs.Prelude.{All, Option, Some, None, is_some, unwrap_or}
use Rattle.ring_spec.specs.Ring.{IsPoly}
use Rattle.param_set.specs.declared.params.Params.{Params}
use Rattle.circuit_form.specs.Circuits.{owners}
use Rattle.session_rules.specs.declared.call.Call.{Call}
use Rattle.session_rules.specs.declared.call.Entry.{Entry}
use Rattle.session_rules.specs.declared.fixed.Fixed.{Fixed}
use Rattle.session_rules.specs.declared.reply.Reply.{Reply}
use Rattle.session_rules.specs.States.{State, opening}
use Rattle.session_rules.specs.Issues.{keys, most_moves}
use Rattle.session_rules.specs.Steps.{step}
use Rattle.session_rules.specs.Tasks.{entry}
use Rattle.session_rules.specs.Histories.{IsLegal, state_after, after, replayed}
use Rattle.session_rules.specs.Facts.{Kept}
use Rattle.session_rules.specs.Grounds.{Grounded}
use Rattle.session_rules.proofs.Keeps.{histories_keep}
use Rattle.session_rules.proofs.Grounds.{histories_ground}
use Rattle.session_rules.proofs.Presence.{histories_issue_few}
use Rattle.session_rules.proofs.Runs.{legal_ones_grow, next_state}
use Rattle.session_spec.specs.Settings.{Setting, rules, Offer, Tells, NeedsNoSwitch}
use Rattle.session_laws.proofs.Beginnings.{rules_whole, opening_is_honest}
use Rattle.session_state.specs.declared.standing.Standing.{Standing}
use Rattle.session_state.specs.Standings.{setting, rules_of, state, HasRoom, store}
use Rattle.session_state.proofs.Asked.{few_keys}
use Rattle.session_core.specs.Sessions.{IsReady, HasTold, IsModest, IsSoundBy}
use Rattle.std.proofs.lemmas.List.FromFn.{length-map-range_with_len}
use Rattle.party_roll.specs.Seeds.{seeds_told}
use Rattle.session_spec.specs.Stores.{Store, empty}
use Rattle.session_spec.specs.Honesty.{IsHonest}
use Rattle.session_laws.specs.Laws.{Stands}
use Rattle.session_core.proofs.Members.{nobody_present}

-- a standing, and the history that led to it
pub record Leads (st : Standing) (es : List Entry) : Type 0 where
  pub legal : IsLegal (rules_of st) es
  pub state_is : state st ≡ state_after (rules_of st) es

pub kept : (st : Standing) (es : List Entry) → state st ≡ state_after (rules_of st) es → Kept (rules_of st) (state st)
kept st es e = subst (λ (s : State). Kept (rules_of st) s) (sym e) (histories_keep (rules_of st) es)

pub grounded : (st : Standing) (es : List Entry) → state st ≡ state_after (rules_of st) es → Grounded (rules_of st) (state st)
grounded st es e = subst (λ (s : State). Grounded (rules_of st) s) (sym e) (histories_ground (rules_of st) es (rules_whole (setting st)))

-- ---- room

few_moves : (st : Standing) → most_moves (rules_of st) ≤ 85
unfolding most_moves
few_moves st =
    let wanted : length (keys (rules_of st)) ≤ 19 = few_keys (rules_of st) (rw (← st.rules_are) st.few_turns) in
    let plans : length (rules_of st).plans ≡ length st.circuits = rw (← st.rules_are) st.lengths.0 in
    let few = st.few in
    omega arith

has_room : (st : Standing) (es : List Entry) (most : ℕ) → state st ≡ state_after (rules_of st) es → length es < most → most ≤ 8388608 → HasRoom st
has_room st es most e l few =
    let m = few_moves st in
    let issued : length (state st).instances ≤ length es * most_moves (rules_of st) =
    subst (λ (s : State). length s.instances ≤ length es * most_moves (rules_of st)) (sym e) (histories_issue_few (rules_of st) es) in
    let most : (length es) * most_moves (rules_of st) ≤ 8388607 * 85 = mul-le (length es) (most_moves (rules_of st)) 8388607 85 (omega arith) m in
    omega arith

pub is_ready : (st : Standing) (es : List Entry) (most : ℕ) → state st ≡ state_after (rules_of st) es → length es < most → most ≤ 8388608 → IsReady st
is_ready st es most e l few = record { room = has_room st es most e l few; kept = kept st es e; grounded = grounded st es e }

-- ---- a call

pub after_call : (st now : Standing) (es items : List Entry) (caller : ℕ) (c : Call) (r : Reply) → Leads st es → setting now ≡ setting st
    → r ≡ (step (rules_of st) (state st) caller c).0 → state now ≡ (step (rules_of st) (state st) caller c).1 → items ≡ es ++ entry caller c r ∷ [] → Leads now items
after_call st now es items caller c r leads same replies goes logged =
    let f : Fixed = rules_of st in
    let e : Entry = entry caller c r in
    let rules_same : rules_of now ≡ f = ap (λ (w : Setting). rules w) same in
    let said : step f (state st) caller c ≡ step f (state_after f es) caller c = ap (λ (s : State). step f s caller c) leads.state_is in
    let legal : IsLegal f (es ++ e ∷ []) =
    subst (λ (z : Reply). IsLegal f (es ++ entry caller c z ∷ [])) (sym (replies ∙ ap (λ (x : Reply × State). x.0) said)) (legal_ones_grow f es caller c leads.legal) in
    let leads_on : state now ≡ state_after f (es ++ e ∷ []) = goes ∙ ap (λ (x : Reply × State). x.1) said ∙ sym (next_state f es e) in
    let there : Leads now (es ++ e ∷ []) = record {
      legal = subst (λ (g : Fixed). IsLegal g (es ++ e ∷ [])) (sym rules_same) legal;
      state_is = subst (λ (g : Fixed). state now ≡ state_after g (es ++ e ∷ [])) (sym rules_same) leads_on;
    } in
    subst (λ (z : List Entry). Leads now z) (sym logged) there

-- ---- honest polynomials

seeds_number : (seed : ℕ → List ℕ) (n : ℕ) → length (seeds_told seed n) ≡ n
unfolding seeds_told
seeds_number seed n = length-map-range_with_len seed 1 n

tells_of : (p : Params) (offer : Offer) (o : Option (List (List ℕ))) → offer.values ≡ o → is_some o ≡ true → length (unwrap_or o []) ≡ length (owners offer.nodes)
    → All (IsPoly p.t p.n) (unwrap_or o []) → Tells p offer
tells_of p offer None e told number plain = cc
tells_of p offer (Some values) e told number plain = record { values = values; told = e; number = number; plain = plain }

pub stands : (is_told : Bool) (seed : ℕ → List ℕ) (most : ℕ) (st : Standing) (es : List Entry) → state st ≡ state_after (rules_of st) es
    → IsSoundBy is_told seed most st es → is_told ≡ true → Stands st.params (setting st) (seeds_told seed st.params.parties) (state st) (store st)
stands is_told seed most st es e h t = record {
  setting = st.setting_is;
  free = h.free;
  values = λ k d l. let it = h.values t k d l in tells_of st.params _ _ refl it.told it.number it.plain;
  parties = seeds_number seed st.params.parties;
  kept = kept st es e;
  grounded = grounded st es e;
  matches = st.matches;
  honest = h.honest t;
}

-- ---- at first

opened_none : (st : Standing) → state st ≡ opening (rules_of st) → Leads st []
unfolding after replayed
opened_none st e = record { legal = refl; state_is = e }

pub opened : (st : Standing) (items : List Entry) → items ≡ [] → state st ≡ opening (rules_of st) → Leads st items
opened st items none e = subst (λ (z : List Entry). Leads st z) (sym none) (opened_none st e)

pub sound_first : (is_told : Bool) (seed : ℕ → List ℕ) (most : ℕ) (st : Standing) (items : List Entry) → items ≡ [] → 1 ≤ most → most ≤ 8388608
    → IsModest (rules_of st) → NeedsNoSwitch (setting st) → (is_told ≡ true → All (HasTold st.params) st.circuits) → state st ≡ opening (rules_of st) → store st ≡ empty (setting st)
    → IsSoundBy is_told seed most st items
sound_first is_told seed most st items none some few modest free values e keeps = record {
  some = some;
  most = few;
  few = rw none (omega arith);
  modest = modest;
  free = free;
  parties = nobody_present st.params.parties (rules_of st) (state st) e;
  values = values;
  honest = λ t. subst (λ (z : State). IsHonest (setting st) (seeds_told seed st.params.parties) z (store st)) (sym e)
      (subst (λ (z : Store). IsHonest (setting st) (seeds_told seed st.params.parties) (opening (rules_of st)) z) (sym keeps) (opening_is_honest (setting st) _));
}
