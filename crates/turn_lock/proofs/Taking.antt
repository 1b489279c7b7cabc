-- What a turn, a note and a meeting do to a pass.
use Rattle.std.proofs.Common.{◌≡◌, ℕ, suc, ◌+◌, ◌%◌, ◌^◌, ◌≤◌, Option, Some, None, option_to_list, List, [], ◌∷◌, ◌++◌, map, length, take, drop, sym, refl, ap, ◌∙◌, subst, arith, append_assoc}
use Rattle.std.proofs.Math.Seq.{drop-append_seam}
use mathlib.Core.Option as maybe
use Rattle.atomic_table.specs.Table.{Me, step, Allows, Splits}
use Rattle.turn_lock.specs.declared.kept.Kept.{Ghosts}
use Rattle.turn_lock.specs.declared.pass.Pass.{Pass}
use Rattle.turn_lock.specs.declared.view.Sight.{Sight}
use Rattle.turn_lock.specs.declared.view.Stage.{Stage}
use Rattle.turn_lock.specs.declared.view.Stage.TheVariants.{Idle, Acting}
use Rattle.turn_lock.specs.declared.view.View.{View}
use Rattle.turn_lock.specs.Views.{BeginsWith, Each, entries_by, number_in, numbers_in, fixed_in, began_in, since_in, alone, grown, unnumbered}
use Rattle.turn_lock.specs.Rule.{total, IsTrueSight, Ruled}
use Rattle.turn_lock.specs.Steps.{IsPassAt, Finds, IsLeft, IsBack, Recalls, view_after, passed_on, joined, copied, noted, kept_back, handed_out}
use Rattle.turn_lock.proofs.Totals.{total_cut, each_cut}
use Rattle.turn_lock.specs.Passes.{seen, TakesTurn}
use Rattle.turn_lock.proofs.Keeps.{splits, recalls}
use Rattle.turn_lock.proofs.TurnKeeps.{passes_on}

module _ {F E : Type 0} where
  pub one_sight : (ts : List (Sight F E)) (n : ℕ) → map number_in ts ≡ n ∷ [] → (t : Sight F E) × (ts ≡ t ∷ []) × (t.number ≡ n)
  one_sight [] n e = let h : 0 ≡ 1 = ap length e in absurd (omega (arith, h))
  one_sight (t ∷ []) n e = let h : t.number + 0 ≡ n + 0 = ap (total (λ k. k)) e in let k : t.number ≡ n = omega (arith, h) in (t, refl, k)
  one_sight (t ∷ u ∷ ts) n e = let h : suc (suc (length (map number_in ts))) ≡ 1 = ap length e in absurd (omega (arith, h))

  pub pass_at : (v : View F E) (n : ℕ) → numbers_in v ≡ n ∷ [] → v.stage ≡ Idle → 1 ≤ n → IsPassAt v Idle
  pass_at v n e idle counts = let o = one_sight v.sights n e in record { sight = o.0; is = λ i. record { sights = o.1 i; stage = idle i }; numbered = subst (λ k. 1 ≤ k) (sym o.2) counts }

  no_numbers : (g : ℕ → ℕ) → g 0 ≡ 0 → (ts : List (Sight F E)) → total (λ t. g t.number) (map unnumbered ts) ≡ 0
  no_numbers g z [] = refl
  no_numbers g z (t ∷ ts) = let h = no_numbers g z ts in omega (arith, h, z)

  all_unnumbered : (number : E → ℕ) (f : F) (b since : List E) (ts : List (Sight F E)) → Each (IsTrueSight number f b since) ts → Each (IsTrueSight number f b since) (map unnumbered ts)
  all_unnumbered number f b since [] all = tt
  all_unnumbered number f b since (t ∷ ts) all = (record { fixed = all.0.fixed; began_is = all.0.began_is; prefix = all.0.prefix; own = λ h. absurd (omega arith) }, all_unnumbered number f b since ts all.1)

module _ {V F E : Type 0} (fixed : V → F) (entries : V → List E) (number : E → ℕ) (f : F) (b : List E) (callers : ℕ) where
  pub copies : (id : ℕ) (v : View F E) → v.stage ≡ Idle → Splits (Ruled fixed entries number f b callers) id v (copied v) (noted v)
  copies id v idle = splits fixed entries number f b callers id v v.sights (map unnumbered v.sights) idle (λ g z. let h = no_numbers g z v.sights in omega (arith, h)) (λ s all. (all, all_unnumbered number f b s v.sights all))

  pub cuts : (id : ℕ) (v : View F E) → v.stage ≡ Idle → Splits (Ruled fixed entries number f b callers) id v (kept_back v) (handed_out v)
  cuts id v idle = splits fixed entries number f b callers id v (drop 1 v.sights) (take 1 v.sights) idle (λ g z. total_cut (λ (t : Sight F E). g t.number) v.sights) (λ s all. each_cut (IsTrueSight number f b s) v.sights all)

  -- the load behind a join
  pub recalls_at : (id slots i n : ℕ) (me : Me (Option V) (View F E)) (v w : View F E) (c : List (ℕ × Option V)) → me ≡ (joined v w, c) → numbers_in v ≡ n ∷ [] → 1 ≤ n → numbers_in w ≡ 0 ∷ []
      → Allows (Ruled fixed entries number f b callers) slots id me i (λ n. n) (λ n. Recalls number me)
  recalls_at id slots i n me v w c is one counts none =
      let p = one_sight v.sights n one in
      let q = one_sight w.sights 0 none in
      let e : me ≡ (record { sights = p.0 ∷ q.0 ∷ []; stage = Idle }, c) = is ∙ (λ k. (record { sights = p.1 k ++ q.1 k; stage = Idle }, c)) in
      let P : Me (Option V) (View F E) → Type 0 = λ m. Allows (Ruled fixed entries number f b callers) slots id m i (λ n. n) (λ n. Recalls number m) in
      subst P (sym e) (recalls fixed entries number f b callers id slots i p.0 q.0 c (subst (λ k. 1 ≤ k) (sym p.2) counts) q.2)

module _ {V F E : Type 0} where
  pub drew_sights : (m : Me (Option V) (View F E)) (ts : List (Sight F E)) (stage : Stage) (c : List (ℕ × Option V)) → m ≡ (record { sights = ts; stage = stage }, c) → m.0.sights ≡ ts
  drew_sights m ts stage c e = ap (λ m. m.0.sights) e

  pub stage_in : (m : Me (Option V) (View F E)) (ts : List (Sight F E)) (stage : Stage) (c : List (ℕ × Option V)) → m ≡ (record { sights = ts; stage = stage }, c) → m.0.stage ≡ stage
  stage_in m ts stage c e = ap (λ m. m.0.stage) e

  pub view_in : (m : Me (Option V) (View F E)) (v : View F E) (c : List (ℕ × Option V)) → m ≡ (v, c) → m.0 ≡ v
  view_in m v c e = ap (λ m. m.0) e

  pub slots_in : (m : Me (Option V) (View F E)) (v : View F E) (c : List (ℕ × Option V)) → m ≡ (v, c) → m.1 ≡ c
  slots_in m v c e = ap (λ m. m.1) e

  pub is_alone : (m : Me (Option V) (View F E)) (t : Sight F E) (c : List (ℕ × Option V)) → m ≡ (alone t Idle, c) → (numbers_in m.0 ≡ t.number ∷ []) × (m.0.stage ≡ Idle) × (m.1 ≡ c)
  is_alone m t c e = (ap (λ x. numbers_in x.0) e, ap (λ x. x.0.stage) e, ap (λ x. x.1) e)

  pub is_note : (m : Me (Option V) (View F E)) (v : View F E) (n : ℕ) → m ≡ (noted v, []) → numbers_in v ≡ n ∷ [] → (numbers_in m.0 ≡ 0 ∷ []) × (m.0.stage ≡ Idle) × (m.1 ≡ [])
  is_note m v n e one = let o = one_sight v.sights n one in (ap (λ x. numbers_in x.0) e ∙ ap (λ ts. map number_in (map unnumbered ts)) o.1, ap (λ x. x.0.stage) e, ap (λ x. x.1) e)

module _ {V F E : Type 0} (fixed : V → F) (entries : V → List E) (number : E → ℕ) where
  pub full_again : (me me' : Me (Option V) (View F E)) (x : V) → me' ≡ (me.0, (0, Some x) ∷ []) → IsLeft fixed entries number me.0 x → IsBack fixed entries number me'
  full_again me me' x is left = record { value = x; there = ap (λ m. m.1) is; left = subst (λ m. IsLeft fixed entries number m.0 x) (sym is) left }

  pub goes_home : (id slots : ℕ) (f : F) (b : List E) (callers : ℕ) (me : Me (Option V) (View F E)) → IsBack fixed entries number me
      → Allows (Ruled fixed entries number f b callers) slots id me 1 (λ n. (n + 1) % 2 ^ 64) (passed_on entries (step slots 1 1 0 maybe.none) me)
  goes_home id slots f b callers me h =
      let l = h.left in
      let P : Me (Option V) (View F E) → Type 0 = λ m. Allows (Ruled fixed entries number f b callers) slots id m 1 (λ n. (n + 1) % 2 ^ 64) (passed_on entries (step slots 1 1 0 maybe.none) m) in
      subst P (λ i. (sym l.is i, sym h.there i)) (passes_on fixed entries number f b callers id slots l.ticket l.sight h.value l.added l.numbered l.fixed_is l.entries_are l.own)

abbrev held_or : {V : Type 0} → V → List (ℕ × Option V) → V
held_or d ((k, Some y) ∷ c) = y
held_or d c = d

pub each_option : {E : Type 0} (P : E → Type 0) (o : Option E) → ((e : E) → o ≡ Some e → P e) → Each P (option_to_list o)
each_option P None h = tt
each_option P (Some e) h = (h e refl, tt)

module _ {V F E : Type 0} {K : Ghosts V F E} where
  -- the facts of one turn of the pass p: m1 is its seat once it waits, m2 once it has the turn; the act makes y of the value x
  pub record Acts (p : Pass V F E K) (m1 m2 : Me (Option V) (View F E)) (x y : V) (added : List E) : Type 0 where
    pub drew : m1.0.sights ≡ p.seat.me.0.sights
    pub finds : Finds K.fixed K.entries K.number m1 m2
    pub took : m2.1 ≡ (0, Some x) ∷ []
    pub fixed_y : K.fixed y ≡ K.fixed x
    pub entries_y : K.entries y ≡ K.entries x ++ added
    pub signed : Each (λ e. K.number e ≡ p.number) added

  module _ (p : Pass V F E K) (m1 m2 : Me (Option V) (View F E)) (x y : V) (added : List E) (a : Acts p m1 m2 x y added) where
    found : x ≡ a.finds.value
    found = let e : (0, Some x) ∷ [] ≡ m2.1 = sym a.took in let e' : m2.1 ≡ (0, Some a.finds.value) ∷ [] = ap (λ m. m.1) a.finds.now in ap (held_or x) (e ∙ e')

    number_is : a.finds.sight.number ≡ p.number
    number_is = let s : p.seat.me.0.sights ≡ a.finds.sight ∷ [] = sym a.drew ∙ a.finds.was in let e : a.finds.sight.number ∷ [] ≡ p.number ∷ [] = sym (ap (map number_in) s) ∙ p.numbered in
        let h : a.finds.sight.number + 0 ≡ p.number + 0 = ap (total (λ k. k)) e in omega (arith, h)

    abbrev after : Sight F E
    after = grown (grown a.finds.sight a.finds.more) added

    value_history : K.entries y ≡ a.finds.sight.began ++ ((a.finds.sight.since ++ a.finds.more) ++ added)
    value_history = a.entries_y ∙ (ap (λ l. l ++ added) (ap K.entries found ∙ a.finds.entries_are) ∙ append_assoc a.finds.sight.began (a.finds.sight.since ++ a.finds.more) added)

    pub signed_sight : Each (λ e. K.number e ≡ a.finds.sight.number) added
    signed_sight = subst (λ n. Each (λ e. K.number e ≡ n) added) (sym number_is) a.signed

    acting : (m : Me (Option V) (View F E)) (c : List (ℕ × Option V)) → m ≡ (m2.0, c) → m.0 ≡ alone (grown a.finds.sight a.finds.more) (Acting a.finds.ticket)
    acting m c is = ap (λ m. m.0) is ∙ ap (λ m. m.0) a.finds.now

    pub leaves : (m : Me (Option V) (View F E)) (c : List (ℕ × Option V)) → m ≡ (m2.0, c) → IsLeft K.fixed K.entries K.number m.0 y
    leaves m c is = record {
      sight = grown a.finds.sight a.finds.more;
      ticket = a.finds.ticket;
      added = added;
      is = acting m c is;
      numbered = a.finds.numbered;
      fixed_is = a.fixed_y ∙ (ap K.fixed found ∙ a.finds.fixed_is);
      entries_are = value_history;
      own = signed_sight;
    }

    -- the seat once the turn is passed on
    pub passed : (m m3 : Me (Option V) (View F E)) (c : List (ℕ × Option V)) → m ≡ (m2.0, c) → m3 ≡ (view_after K.entries m.0 ((0, Some y) ∷ []), []) → m3 ≡ (alone after Idle, [])
    passed m m3 c was is =
        let kept : drop (length a.finds.sight.began) (K.entries y) ≡ (a.finds.sight.since ++ a.finds.more) ++ added = ap (drop (length a.finds.sight.began)) value_history ∙ drop-append_seam a.finds.sight.began ((a.finds.sight.since ++ a.finds.more) ++ added) in
        is ∙ (ap (λ (v : View F E). (view_after K.entries v ((0, Some y) ∷ []), [])) (acting m c was)
        ∙ (λ i. (record { sights = record { number = a.finds.sight.number; fixed = a.finds.sight.fixed; began = a.finds.sight.began; since = kept i } ∷ []; stage = Idle }, [])))

    pub before_view : p.seat.me.0 ≡ alone a.finds.sight Idle
    before_view = let s : p.seat.me.0.sights ≡ a.finds.sight ∷ [] = sym a.drew ∙ a.finds.was in λ i. record { sights = s i; stage = p.idle i }

    module _ (q : Pass V F E K) (same_number : q.number ≡ p.number) (is : q.seat.me ≡ (alone after Idle, [])) where
      after_view : q.seat.me.0 ≡ alone after Idle
      after_view = ap (λ m. m.0) is

      pub takes : (says : V → V → Type 0) → says x y → K.IsLegal (K.fixed y) (K.entries y) → TakesTurn says added p q
      takes says said legal =
          let t = a.finds.sight in
          let seen_now : seen q ≡ K.entries y = ap (λ v. began_in v ++ since_in v) after_view ∙ sym value_history in
          let seen_then : seen p ≡ t.began ++ t.since = ap (λ v. began_in v ++ since_in v) before_view in record {
            before = x;
            after = y;
            others = a.finds.more;
            not_mine = subst (λ n. entries_by K.number n a.finds.more ≡ []) number_is a.finds.others;
            found = ap K.entries found ∙ (a.finds.entries_are ∙ (sym (append_assoc t.began t.since a.finds.more) ∙ ap (λ l. l ++ a.finds.more) (sym seen_then)));
            left = a.entries_y;
            seen_now = seen_now;
            fixed_before = ap fixed_in before_view ∙ ap Some (sym a.finds.fixed_is ∙ ap K.fixed (sym found));
            fixed_after = ap fixed_in after_view ∙ ap Some (sym a.finds.fixed_is ∙ (ap K.fixed (sym found) ∙ sym a.fixed_y));
            legal = subst (K.IsLegal (K.fixed y)) (sym seen_now) legal;
            said = said;
          }

-- what a meeting tells a pass with the view v of a note with the view w
module _ {V F E : Type 0} (number : E → ℕ) (m m' : Me (Option V) (View F E)) (v w : View F E) (n : ℕ) (c : List (ℕ × Option V)) where
  pub meets : m ≡ (joined v w, c) → Recalls number m m' → numbers_in v ≡ n ∷ [] → numbers_in w ≡ 0 ∷ [] → BeginsWith (began_in m'.0 ++ since_in m'.0) (began_in w ++ since_in w)
  meets is r one none =
      let p = one_sight v.sights n one in
      let q = one_sight w.sights 0 none in
      let both : p.0 ∷ q.0 ∷ [] ≡ r.sight ∷ r.told ∷ [] = sym (λ k. p.1 k ++ q.1 k) ∙ (sym (ap (λ x. x.0.sights) is) ∙ r.was) in
      let told : q.0 ≡ r.told = cc in
      let theirs : w.sights ≡ r.told ∷ [] = q.1 ∙ ap (λ t. t ∷ []) told in
      let seen_theirs : began_in w ++ since_in w ≡ r.told.began ++ r.told.since = ap (λ ts. (let x : View F E = record { sights = ts; stage = w.stage } in began_in x ++ since_in x)) theirs in
      let seen_now : began_in m'.0 ++ since_in m'.0 ≡ r.sight.began ++ (r.sight.since ++ r.more) = ap (λ x. began_in x.0 ++ since_in x.0) r.now in
      let more : List E = r.begins.0 in
      (more, seen_now ∙ ((λ k. sym r.alike k ++ r.begins.1 k) ∙ (sym (append_assoc r.told.began r.told.since more) ∙ ap (λ l. l ++ more) (sym seen_theirs))))

  pub met_pass : m ≡ (joined v w, c) → Recalls number m m' → numbers_in v ≡ n ∷ [] → c ≡ [] → (numbers_in m'.0 ≡ n ∷ []) × (m'.0.stage ≡ Idle) × (m'.1 ≡ [])
  met_pass is r one empty =
      let p = one_sight v.sights n one in
      let both : p.0 ∷ w.sights ≡ r.sight ∷ r.told ∷ [] = sym (λ k. p.1 k ++ w.sights) ∙ (sym (ap (λ x. x.0.sights) is) ∙ r.was) in
      let mine : p.0 ≡ r.sight = cc in
      let n_is : r.sight.number ≡ n = sym (ap (λ t. t.number) mine) ∙ p.2 in
      (ap (λ x. numbers_in x.0) r.now ∙ ap (λ k. k ∷ []) n_is, ap (λ x. x.0.stage) r.now, ap (λ x. x.1) r.now ∙ (ap (λ x. x.1) is ∙ empty))
