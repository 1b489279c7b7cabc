-- The steps of a turn keep the rule: the look that finds the turn, and the addition that passes it on. And what the rule says at the end.
use Rattle.std.proofs.Common.{◌≡◌, ◌≢◌, ℕ, zero, suc, ◌+◌, ◌%◌, ◌^◌, ◌≤◌, ◌==◌, true, false, MatchBool, Option, Some, List, [], ◌∷◌, ◌++◌, drop, length, set, get_or, sym, refl, ap, ◌∙◌, subst, arith, append-nil, append_assoc, inl, inr}
use Rattle.std.proofs.Math.Seq.{drop-append_seam}
use Rattle.std.proofs.lemmas.Bool.Decides.{nat_tests}
use mathlib.Core.Logic.{dite}
use mathlib.Core.Option.{some}
use mathlib.Core.Option as maybe
use native.Mathlib.Decide.{ℕ_discrete}
use lib.ListN.{get_elem?}
use lib.Seq.{set-get_or}
use Rattle.atomic_table.specs.Table.{State, Me, step, keeps, takes, gives, Allows}
use Rattle.atomic_table.proofs.Lists.{set_again, one_turn}
use Rattle.turn_lock.specs.declared.view.Sight.{Sight}
use Rattle.turn_lock.specs.declared.view.Stage.{Stage}
use Rattle.turn_lock.specs.declared.view.Stage.TheVariants.{Idle, Waiting, Acting}
use Rattle.turn_lock.specs.declared.view.View.{View}
use Rattle.turn_lock.specs.Views.{Each, entries_by, alone, grown}
use Rattle.turn_lock.specs.Rule.{one_each, weigh, ticket_of, turn_of, total, ticket_in, passes_in, turn_in, IsBy, Stands, IsTrueSight, IsTrueView, IsHome, Placed, Ruled}
use Rattle.turn_lock.specs.Steps.{Finds, looked, view_after, passed_on}
use Rattle.turn_lock.proofs.Totals.{total_set, total_has, total_le, total_apart, each_set, each_append, each_at, each_map, each_both, each_but, each_zero, same, below_ones, below_numbers, same_here, same_else, below_same_most, between}
use Rattle.turn_lock.proofs.Entries.{one_further, by_append, by_rest, by_none}

yes_same : (a b : ℕ) → a ≡ b → (a == b) ≡ true
yes_same a b h = grind (arith, nat_tests)

not_same : (a b : ℕ) → a ≢ b → (a == b) ≡ false
not_same a b h = grind (arith, nat_tests)

at_true : (a b : ℕ) (P Q : Type 0) → a ≡ b → P → MatchBool (a == b) P Q
at_true a b P Q h p = subst (λ c. MatchBool c P Q) (sym (yes_same a b h)) p

at_false : (a b : ℕ) (P Q : Type 0) → a ≢ b → Q → MatchBool (a == b) P Q
at_false a b P Q h q = subst (λ c. MatchBool c P Q) (sym (not_same a b h)) q

not_number : (p : ℕ) → 1 ≤ p → same p 0 ≡ 0
not_number p h = let e : 0 ≢ p = (λ e. absurd (omega arith)) in same_else p 0 e

apart_differs : (p q : ℕ) → same p q ≡ 0 → p ≢ q
apart_differs p q z e = let h : same p q ≡ 1 = ap (same p) (sym e) ∙ same_here p in absurd (omega arith)

pub some_is : (n : ℕ) → 1 ≤ n → one_each n ≡ 1
some_is zero h = absurd (omega arith)
some_is (suc n) h = refl

module _ {F E : Type 0} (since : List E) (served : ℕ) where
  counted : (t : Sight F E) → 1 ≤ t.number → total (λ (x : Sight F E). one_each x.number) (t ∷ []) ≡ 1
  counted t h = let e : one_each t.number ≡ 1 = some_is t.number h in omega arith

  ticket_has_pass : (ts : List (Sight F E)) (stage : Stage) → Stands since served ts stage → weigh (λ _. 1) stage ≤ total (λ t. one_each t.number) ts
  ticket_has_pass ts Idle h = omega arith
  ticket_has_pass ts (Waiting k) h = let e : total (λ (x : Sight F E). one_each x.number) ts ≡ 1 = ap (total (λ (x : Sight F E). one_each x.number)) h.1 ∙ counted h.0 h.2 in omega arith
  ticket_has_pass ts (Acting k) h = let e : total (λ (x : Sight F E). one_each x.number) ts ≡ 1 = ap (total (λ (x : Sight F E). one_each x.number)) h.1 ∙ counted h.0 h.2 in omega arith

  turn_has_ticket : (ts : List (Sight F E)) (stage : Stage) → Stands since served ts stage → turn_of stage ≤ weigh (same served) stage
  turn_has_ticket ts Idle h = omega arith
  turn_has_ticket ts (Waiting k) h = omega arith
  turn_has_ticket ts (Acting k) h = let e : same served k ≡ 1 = ap (same served) h.4 ∙ same_here served in omega arith

  turn_has_pass : (ts : List (Sight F E)) (stage : Stage) → Stands since served ts stage → turn_of stage ≤ total (λ t. one_each t.number) ts
  turn_has_pass ts Idle h = omega arith
  turn_has_pass ts (Waiting k) h = omega arith
  turn_has_pass ts (Acting k) h = let e : total (λ (x : Sight F E). one_each x.number) ts ≡ 1 = ap (total (λ (x : Sight F E). one_each x.number)) h.1 ∙ counted h.0 h.2 in omega arith

  -- who has no turn does not see what is served
  stands_on : (since' : List E) (served' : ℕ) (ts : List (Sight F E)) (stage : Stage) → turn_of stage ≡ 0 → Stands since served ts stage → Stands since' served' ts stage
  stands_on since' served' ts Idle none h = tt
  stands_on since' served' ts (Waiting k) none h = h
  stands_on since' served' ts (Acting k) none h = absurd (omega arith)

module _ {V F E : Type 0} (fixed : V → F) (entries : V → List E) (number : E → ℕ) (f : F) (b : List E) (callers : ℕ) where
  abbrev S : Type 0
  S = State (Option V) (View F E)

  abbrev Seat_ : Type 0
  Seat_ = Me (Option V) (View F E)

  abbrev R : S → Type 0
  R = Ruled fixed entries number f b callers

  -- so few tickets are out that the words tell them apart
  in_reach : (s : S) (r : R s) → r.drawn ≤ r.served + 64
  in_reach s r =
      let le = total_le (IsTrueView number f b r.since r.served) (ticket_in (λ _. 1)) (passes_in one_each)
      (λ (v : View F E) (h : IsTrueView number f b r.since r.served v). ticket_has_pass r.since r.served v.sights v.stage h.stage) s.views r.views in
      let t = r.tickets (λ _. 1) in
      let n = r.numbers one_each refl in
      let d = below_ones r.drawn in
      let e = below_ones r.served in
      let c = below_numbers callers in
      let few = r.few in
      omega (arith, le, t, n, d, e, c, few)

  -- whose ticket is the word found waits for the ticket that is served
  is_served : (s : S) (r : R s) (id t : ℕ) (v : View F E) → get_elem? s.views id ≡ some v → v.stage ≡ Waiting t → r.served % 2 ^ 64 ≡ t % 2 ^ 64 → r.served ≡ t
  is_served s r id t v at waits found =
      let has = total_has (ticket_in (same t)) s.views id v at in
      let one : ticket_in (same t) v ≡ 1 = ap (weigh (same t)) waits ∙ same_here t in
      let lies = between t r.served r.drawn (total (ticket_in (same t)) s.views) (omega (arith, has, one)) (r.tickets (same t)) in
      let near = in_reach s r in
      one_turn r.served t (2 ^ 64) lies.0 (omega (arith, lies.1, near)) found

  nobody_acts : (s : S) (r : R s) (id : ℕ) (v : View F E) → get_elem? s.views id ≡ some v → v.stage ≡ Waiting r.served → total turn_in s.views ≡ 0
  nobody_acts s r id v at waits =
      let apart = total_apart (IsTrueView number f b r.since r.served) turn_in (ticket_in (same r.served))
      (λ (x : View F E) (h : IsTrueView number f b r.since r.served x). turn_has_ticket r.since r.served x.sights x.stage h.stage) s.views id v r.views at in
      let one : ticket_in (same r.served) v ≡ 1 = ap (weigh (same r.served)) waits ∙ same_here r.served in
      let none : turn_in v ≡ 0 = ap turn_of waits in
      let most = below_same_most r.served r.drawn in
      let all = r.tickets (same r.served) in
      omega (arith, apart, one, none, most, all)

  at_home : (history : List E) (s : S) → total turn_in s.views ≡ 0 → Placed fixed entries f history s → IsHome fixed entries f history s.homes
  at_home history s none (inl h) = h.1
  at_home history s none (inr h) = absurd (omega (arith, h.0))

  gone : (history : List E) (s : S) → 1 ≤ total turn_in s.views → Placed fixed entries f history s → (total turn_in s.views ≡ 1) × (s.homes ≡ maybe.none ∷ [])
  gone history s some_turn (inl h) = absurd (omega (arith, h.0))
  gone history s some_turn (inr h) = h

  -- the look that finds the turn
  finds : (id slots t : ℕ) (v : View F E) (s : S) → R s → get_elem? s.views id ≡ some v → v.stage ≡ Waiting t → get_or s.words 1 0 ≡ t % 2 ^ 64
      → (w : View F E) × (x : V) × (get_elem? s.homes 0 ≡ some (some (Some x)))
      × R (record { words = set s.words 1 (get_or s.words 1 0); homes = set s.homes 0 maybe.none; views = set s.views id w })
      × Finds fixed entries number (v, []) (w, (0, Some x) ∷ [])
  finds id slots t v s r at waits found =
      let Good : View F E → Type 0 = IsTrueView number f b r.since r.served in
      let true_now = each_at Good s.views id v r.views at in
      let served_word : get_or s.words 1 0 ≡ r.served % 2 ^ 64 = ap (λ ws. get_or ws 1 0) r.words in
      let is : r.served ≡ t = is_served s r id t v at waits (sym served_word ∙ found) in
      let nobody = nobody_acts s r id v at (waits ∙ ap Waiting (sym is)) in
      let home = at_home (b ++ r.since) s nobody r.placed in
      let pass : Stands r.since r.served v.sights (Waiting t) = subst (Stands r.since r.served v.sights) waits true_now.stage in
      let sight : Sight F E = pass.0 in
      let good : IsTrueSight number f b r.since sight = (subst (Each (IsTrueSight number f b r.since)) pass.1 true_now.sights).0 in
      let more : List E = good.prefix.0 in
      let goes : r.since ≡ sight.since ++ more = good.prefix.1 in
      let w : View F E = alone (grown sight more) (Acting t) in
      let x : V = home.value in (
        w,
        x,
        ap (λ hs. get_elem? hs 0) home.there,
        record {
          since = r.since;
          drawn = r.drawn;
          served = r.served;
          few = r.few;
          words = set-get_or s.words 1 0 ∙ r.words;
          tickets = λ g. let a = total_set (ticket_in g) s.views id v w at in let e : ticket_in g v ≡ g t = ap (weigh g) waits in let k = r.tickets g in omega (arith, a, e, k);
          numbers = λ g z. let a = total_set (passes_in g) s.views id v w at in let e : passes_in g v ≡ passes_in g w = ap (total (λ (y : Sight F E). g y.number)) pass.1 in let k = r.numbers g z in omega (arith, a, e, k);
          placed = inr (let a = total_set turn_in s.views id v w at in let e : turn_in v ≡ 0 = ap turn_of waits in omega (arith, a, e, nobody), ap (λ hs. set hs 0 maybe.none) home.there);
          authors = r.authors;
          views = each_set Good s.views id w r.views (record {
            sights = (record { fixed = good.fixed; began_is = good.began_is; prefix = ([], goes ∙ sym (append-nil (sight.since ++ more))); own = λ _. ap (entries_by number sight.number) goes }, tt);
            stage = (grown sight more, refl, pass.2, sym goes, sym is);
          });
        },
        record {
          sight = sight;
          more = more;
          ticket = t;
          value = x;
          was = pass.1;
          numbered = pass.2;
          now = refl;
          others = by_rest number sight.number sight.since more (sym (ap (entries_by number sight.number) goes) ∙ good.own pass.2);
          fixed_is = home.fixed_is ∙ sym good.fixed;
          entries_are = home.entries_are ∙ (λ i. sym good.began_is i ++ goes i);
        },
      )

  looks : (id slots t : ℕ) (v : View F E) → v.stage ≡ Waiting t → Allows R slots id (v, []) 1 (λ n. n) (looked fixed entries number (step slots 1 0 0 maybe.none) (v, []))
  looks id slots t v waits s r deep at small =
      let n : ℕ = get_or s.words 1 0 in
      let ticket : ticket_of v.stage ≡ t = ap ticket_of waits in
      dite (ℕ_discrete n (ticket_of v.stage % 2 ^ 64))
      (λ hit. let got = finds id slots t v s r at waits (hit ∙ ap (λ k. k % 2 ^ 64) ticket) in
      (got.0, takes 0 (Some got.1), got.2, got.3, at_true n (ticket_of v.stage % 2 ^ 64) _ _ hit got.4))
      (λ miss. let here : List ℕ × List (View F E) → S = λ z. record { words = z.0; homes = s.homes; views = z.1 } in
      (v, keeps, tt, subst (λ (z : List ℕ × List (View F E)). R (here z)) (λ i. (sym (set-get_or s.words 1 0) i, sym (set_again s.views id v at) i)) r, at_false n (ticket_of v.stage % 2 ^ 64) _ _ miss refl))

  pub looks_at : (id slots t : ℕ) (me : Seat_) → me.0.stage ≡ Waiting t → me.1 ≡ [] → Allows R slots id me 1 (λ n. n) (looked fixed entries number (step slots 1 0 0 maybe.none) me)
  looks_at id slots t me waits empty =
      let P : List (ℕ × Option V) → Type 0 = λ c. Allows R slots id (me.0, c) 1 (λ n. n) (looked fixed entries number (step slots 1 0 0 maybe.none) (me.0, c)) in
      subst P (sym empty) (looks id slots t me.0 waits)

  -- a pass's number is one of those that were given out
  number_fits : (s : S) (r : R s) (id : ℕ) (t : Sight F E) (stage : Stage) → get_elem? s.views id ≡ some (alone t stage) → 1 ≤ t.number
      → (t.number ≤ callers) × (total (passes_in (same t.number)) s.views ≤ 1)
  number_fits s r id t stage at counts =
      let p : ℕ = t.number in
      let z : same p 0 ≡ 0 = not_number p counts in
      let has = total_has (passes_in (same p)) s.views id (alone t stage) at in
      let one : passes_in (same p) (alone t stage) ≡ 1 = (let h = same_here p in omega (arith, h)) in
      let all = r.numbers (same p) z in
      let most = below_same_most p (suc callers) in
      let lies = between p 0 (suc callers) (total (passes_in (same p)) s.views) (omega (arith, has, one)) (omega (arith, all)) in
      (omega (arith, lies.1), omega (arith, all, most))

  -- another pass's sight, as the history goes on by p alone
  sight_on : (since added : List E) (p : ℕ) (x : Sight F E) → Each (λ e. number e ≡ p) added → same p x.number ≡ 0 → IsTrueSight number f b since x → IsTrueSight number f b (since ++ added) x
  sight_on since added p x by apart h = record {
    fixed = h.fixed;
    began_is = h.began_is;
    prefix = (h.prefix.0 ++ added, ap (λ l. l ++ added) h.prefix.1 ∙ append_assoc x.since h.prefix.0 added);
    own = λ counts. by_append number x.number since added ∙ (ap (λ l. entries_by number x.number since ++ l) (by_none number p x.number added by (λ e. apart_differs p x.number apart e)) ∙ (append-nil (entries_by number x.number since) ∙ h.own counts));
  }

  pub passes_on : (id slots k : ℕ) (t : Sight F E) (y : V) (added : List E) → 1 ≤ t.number → fixed y ≡ t.fixed → entries y ≡ t.began ++ (t.since ++ added) → Each (λ e. number e ≡ t.number) added
      → Allows R slots id (alone t (Acting k), (0, Some y) ∷ []) 1 (λ n. (n + 1) % 2 ^ 64) (passed_on entries (step slots 1 1 0 maybe.none) (alone t (Acting k), (0, Some y) ∷ []))
  passes_on id slots k t y added counts fixed_y entries_y by s r deep at small =
      let v : View F E = alone t (Acting k) in
      let w : View F E = alone (grown t added) Idle in
      let Good : View F E → Type 0 = IsTrueView number f b r.since r.served in
      let true_now = each_at Good s.views id v r.views at in
      let good : IsTrueSight number f b r.since t = true_now.sights.0 in
      let st : Stands r.since r.served (t ∷ []) (Acting k) = true_now.stage in
      let is_t : t ≡ st.0 = (let e = st.1 in cc) in
      let up_to_date : t.since ≡ r.since = ap (λ (x : Sight F E). x.since) is_t ∙ st.3 in
      let served_now : k ≡ r.served = st.4 in
      let fits = number_fits s r id t (Acting k) at counts in
      let out = gone (b ++ r.since) s (total_has turn_in s.views id v at) r.placed in
      let goes : entries y ≡ b ++ (r.since ++ added) = entries_y ∙ (λ i. good.began_is i ++ (up_to_date i ++ added)) in
      let after : View F E = view_after entries v ((0, Some y) ∷ []) in
      let kept : drop (length t.began) (entries y) ≡ t.since ++ added = ap (drop (length t.began)) entries_y ∙ drop-append_seam t.began (t.since ++ added) in
      let same_view : w ≡ after = λ i. record { sights = record { number = t.number; fixed = t.fixed; began = t.began; since = sym kept i } ∷ []; stage = Idle } in (
        w,
        gives,
        tt,
        record {
          since = r.since ++ added;
          drawn = r.drawn;
          served = suc r.served;
          few = r.few;
          words = ap (λ ws. set ws 1 ((get_or ws 1 0 + 1) % 2 ^ 64)) r.words ∙ ap (λ n. r.drawn % 2 ^ 64 ∷ n ∷ []) (one_further r.served);
          tickets = λ g. let a = total_set (ticket_in g) s.views id v w at in let e : g k ≡ g r.served = ap g served_now in let c = r.tickets g in omega (arith, a, e, c);
          numbers = λ g z. let a = total_set (passes_in g) s.views id v w at in let c = r.numbers g z in omega (arith, a, c);
          placed = inl (
            let a = total_set turn_in s.views id v w at in let o = out.0 in omega (arith, a, o),
            record { value = y; there = ap (λ hs. set hs 0 (some (Some y))) out.1; fixed_is = fixed_y ∙ good.fixed; entries_are = goes },
          );
          authors = each_append (IsBy number callers) r.since added r.authors (each_map (λ e. number e ≡ t.number) (IsBy number callers) (λ e h. (let c = counts in omega arith, let c = fits.0 in omega arith)) added by);
          views = each_but Good (IsTrueView number f b (r.since ++ added) (suc r.served)) s.views id v w r.views at
              (record {
                sights = (record { fixed = good.fixed; began_is = good.began_is; prefix = ([], sym (append-nil (t.since ++ added) ∙ ap (λ l. l ++ added) up_to_date)); own = λ _. ap (λ l. entries_by number t.number (l ++ added)) (sym up_to_date) }, tt);
                stage = tt;
              })
              (λ x h apart.
              let none : passes_in (same t.number) x ≡ 0 = (let a = apart (passes_in (same t.number)) in let o = same_here t.number in let m = fits.1 in omega (arith, a, o, m)) in
              let no_turn : turn_in x ≡ 0 = (let a = apart turn_in in let o = out.0 in omega (arith, a, o)) in record {
                sights = each_map (λ u. IsTrueSight number f b r.since u × (same t.number u.number ≡ 0)) (IsTrueSight number f b (r.since ++ added)) (λ u z. sight_on r.since added t.number u by z.1 z.0) x.sights
                    (each_both (IsTrueSight number f b r.since) (λ u. same t.number u.number ≡ 0) x.sights h.sights (each_zero (λ u. same t.number u.number) x.sights none));
                stage = stands_on r.since r.served (r.since ++ added) (suc r.served) x.sights x.stage no_turn h.stage;
              });
        },
        λ i. (same_view i, []),
      )

  -- at the end one idle view has every number, and so the slot is at home
  pub rests : (s : S) (r : R s) (id : ℕ) (v : View F E) → get_elem? s.views id ≡ some v → v.stage ≡ Idle → callers ≤ passes_in one_each v → IsHome fixed entries f (b ++ r.since) s.homes
  rests s r id v at idle every =
      let apart = total_apart (IsTrueView number f b r.since r.served) turn_in (passes_in one_each)
      (λ (x : View F E) (h : IsTrueView number f b r.since r.served x). turn_has_pass r.since r.served x.sights x.stage h.stage) s.views id v r.views at in
      let none : turn_in v ≡ 0 = ap turn_of idle in
      let all = r.numbers one_each refl in
      let c = below_numbers callers in
      at_home (b ++ r.since) s (omega (arith, apart, none, all, c)) r.placed
