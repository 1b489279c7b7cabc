-- What a desk does that is a session, told of the session's log.
use Rattle.std.proofs.Common.{◌≡◌, ◌∙◌, sym, ap, subst, refl, ℕ, true, List, [], ◌∷◌, ◌++◌, All, None, arith}
use Rattle.std.proofs.lemmas.List.{append_assoc}
use Rattle.std.proofs.lemmas.List.Elements.{filter_passes}
use Rattle.party_roll.specs.declared.roll.Roll.{Ghosts}
use Rattle.session_rules.specs.declared.call.Call.{Call}
use Rattle.session_rules.specs.declared.call.Entry.{Entry}
use Rattle.session_rules.specs.Tasks.{is_by, own}
use Rattle.session_core.specs.Sessions.{Known}
use Rattle.session_core.specs.Calls.{known}
use Rattle.session_core.specs.declared.session.Session.{Session}
use Rattle.session_core.specs.declared.stop.Stop.{Stop}
use Rattle.lane_workers.specs.Desks.{session_fixture, session_view}
use Rattle.lane_workers.specs.Doing.{Added, Broken, Acted, Halted}

-- ---- a caller's own entries

own_yes : (who : ℕ) (e : Entry) (es : List Entry) → is_by who e ≡ true → own who (e ∷ es) ≡ e ∷ own who es
own_yes who e es y = rw y refl

pub first_by : (who : ℕ) (e : Entry) (es : List Entry) → own who (e ∷ es) ≡ e ∷ es → is_by who e ≡ true
first_by who e es h =
    let all : All (λ (z : Entry). is_by who z ≡ true) (e ∷ es) = subst (All (λ (z : Entry). is_by who z ≡ true)) h (filter_passes (is_by who) (e ∷ es)) in
    all 0 e (omega arith)

-- where all are its own, the first ones are
own_front : (who : ℕ) (a b : List Entry) → own who (a ++ b) ≡ a ++ b → own who a ≡ a
own_front who [] b h = refl
own_front who (e ∷ a) b h =
    let y = first_by who e (a ++ b) h in
    let tail : e ∷ own who (a ++ b) ≡ e ∷ (a ++ b) = sym (own_yes who e (a ++ b) y) ∙ h in
    let rest : own who (a ++ b) ≡ a ++ b = cc in
    own_yes who e a y ∙ ap (λ (z : List Entry). e ∷ z) (own_front who a b rest)

-- ---- a session is alone

module _ {R : Type 0} {K : Ghosts R} where
  pub fixed_are : (old new : Session R K) → known new ≡ known old → session_fixture new ≡ session_fixture old
  fixed_are old new e = ap (λ (z : Known). record { known = z; caller = 0; alone = true; lent = []; lock = None; earlier = [] }) e

  pub as_acted : (Are : List Entry → Type 0) (old new : Session R K) → Added Are (session_view old) (session_view new) → Acted Are old.log.items new.log.items
  as_acted Are old new x =
      let all = x.alone refl in
      record { made = x.made; log = x.seen ∙ ap (λ (z : List Entry). old.log.items ++ z) all; alone = ap (own 0) (sym all) ∙ x.its; are = x.are }

  pub as_halted : (why : Stop) (Are : List Entry → Call → Type 0) (old new : Session R K) → Broken why Are (session_view old) (session_view new) → Halted (known old).most why Are old.log.items new.log.items
  as_halted why Are old new x =
      let all = x.alone refl in
      record {
        made = x.made;
        back = x.back;
        log = x.seen ∙ ap (λ (z : List Entry). old.log.items ++ z) all ∙ sym (append_assoc old.log.items x.made x.back);
        alone = own_front 0 x.made x.back (ap (own 0) (sym all) ∙ x.its);
        next = x.next;
        are = x.are;
        gives_back = x.gives_back;
        reason = x.reason;
      }
