-- Rounds behind rounds.
use Rattle.std.proofs.Common.{◌≡◌, sym, subst, refl, ℕ, zero, suc, true, false, List, [], ◌∷◌, ◌++◌, map, inl, inr}
use Rattle.std.specs.List.{list_all}
use Rattle.std.proofs.lemmas.List.{append_assoc, append-nil}
use Rattle.session_rules.specs.declared.call.Call.{Call}
use Rattle.session_rules.specs.declared.call.Entry.{Entry}
use Rattle.session_rules.specs.declared.fixed.Fixed.{Fixed}
use Rattle.session_rules.specs.States.{State}
use Rattle.session_rules.specs.Histories.{after}
use Rattle.share_spec.specs.Sets.{members}
use Rattle.session_rules.specs.Tasks.{exhausts}
use Rattle.session_rules.specs.Courses.{is_over, sends, Follows, BreaksOff, is_settled, round_tasks, Settles, Unsettled, rounds}
use Rattle.session_rules.proofs.Runs.{after_append}

settles_over : (n : ℕ) (f : Fixed) (s : State) → is_settled s ≡ true → Settles n f 0 s []
settles_over zero f s e = refl
settles_over (suc n) f s e = rw (e, Settles) refl

settles_more : (n : ℕ) (f : Fixed) (s : State) (here later : List Entry) → is_settled s ≡ false → Follows f.rows (round_tasks s) here → Settles n f 0 (after f s here) later → Settles (suc n) f 0 s (here ++ later)
settles_more n f s here later e follows more = rw (e, Settles) (here, later, refl, follows, more)

unsettled_here : (n : ℕ) (f : Fixed) (s : State) (here : List Entry) (next : Call) → is_settled s ≡ false → BreaksOff f.rows (round_tasks s) here next → Unsettled (suc n) f 0 s here next
unsettled_here n f s here next e begins = rw (e, Unsettled) (inl begins)

unsettled_more : (n : ℕ) (f : Fixed) (s : State) (here later : List Entry) (next : Call) → is_settled s ≡ false → Follows f.rows (round_tasks s) here → Unsettled n f 0 (after f s here) later next
    → Unsettled (suc n) f 0 s (here ++ later) next
unsettled_more n f s here later next e follows more = rw (e, Unsettled) (inr (here, later, refl, follows, more))

-- rounds are made, and n more may be
pub record SoFar (n : ℕ) (f : Fixed) (s : State) (es : List Entry) : Type 0 where
  pub on : (later : List Entry) → Settles n f 0 (after f s es) later → Settles rounds f 0 s (es ++ later)
  pub off : (later : List Entry) (next : Call) → Unsettled n f 0 (after f s es) later next → Unsettled rounds f 0 s (es ++ later) next

pub none_yet : (f : Fixed) (s : State) → SoFar rounds f s []
unfolding after
none_yet f s = record { on = λ later h. h; off = λ later next h. h }

pub one_round : (n : ℕ) (f : Fixed) (s : State) (es here : List Entry) → SoFar (suc n) f s es → is_settled (after f s es) ≡ false → Follows f.rows (round_tasks (after f s es)) here → SoFar n f s (es ++ here)
one_round n f s es here x e follows =
    let t = after f s es in
    let same = after_append f s es here in
    record {
      on = λ later h. subst (λ (z : List Entry). Settles rounds f 0 s z) (sym (append_assoc es here later))
          (x.on (here ++ later) (settles_more n f t here later e follows (subst (λ (z : State). Settles n f 0 z later) same h)));
      off = λ later next h. subst (λ (z : List Entry). Unsettled rounds f 0 s z next) (sym (append_assoc es here later))
          (x.off (here ++ later) next (unsettled_more n f t here later next e follows (subst (λ (z : State). Unsettled n f 0 z later next) same h)));
    }

pub all_rounds : (f : Fixed) (s : State) (es : List Entry) → SoFar 0 f s es → Settles rounds f 0 s es
all_rounds f s es x = subst (λ (z : List Entry). Settles rounds f 0 s z) (append-nil es) (x.on [] refl)

pub enough_rounds : (n : ℕ) (f : Fixed) (s : State) (es : List Entry) → SoFar n f s es → is_settled (after f s es) ≡ true → Settles rounds f 0 s es
enough_rounds n f s es x e = subst (λ (z : List Entry). Settles rounds f 0 s z) (append-nil es) (x.on [] (settles_over n f (after f s es) e))

pub few_rounds : (n : ℕ) (f : Fixed) (s : State) (es here : List Entry) (next : Call) → SoFar (suc n) f s es → is_settled (after f s es) ≡ false → BreaksOff f.rows (round_tasks (after f s es)) here next
    → Unsettled rounds f 0 s (es ++ here) next
few_rounds n f s es here next x e begins = x.off here next (unsettled_here n f (after f s es) here next e begins)

-- ---- a round

pub round_is : (s : State) → round_tasks s ≡ map sends (members s.present) ++ exhausts ∷ []
unfolding round_tasks
round_is s = refl

pub over_is : (s : State) → list_all is_over s.circuits ≡ is_settled s
unfolding is_settled
over_is s = refl
