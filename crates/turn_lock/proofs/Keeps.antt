-- The steps that make no turn keep the rule: the opening, a draw, a recall, a split, a join.
use Rattle.std.proofs.Common.{◌≡◌, ◌⊎◌, ℕ, zero, suc, ◌+◌, ◌%◌, ◌^◌, ◌≤◌, Option, Some, List, [], ◌∷◌, ◌++◌, map, set, get_or, sym, refl, ap, ◌∙◌, subst, arith, append-nil, add-one, add-zero, inl}
use Rattle.std.specs.List.{range_with_len}
use mathlib.Core.Option.{some}
use mathlib.Core.Option as maybe
use lib.Seq.{set-get_or}
use Rattle.atomic_table.specs.Table.{State, Me, step, keeps, Allows, Splits, Joins, opening}
use Rattle.atomic_table.proofs.Lists.{set_else}
use Rattle.turn_lock.specs.declared.view.Sight.{Sight}
use Rattle.turn_lock.specs.declared.view.Stage.TheVariants.{Idle, Waiting}
use Rattle.turn_lock.specs.declared.view.View.{View}
use Rattle.turn_lock.specs.Views.{Each, entries_by, alone, grown, fresh}
use Rattle.turn_lock.specs.Rule.{weigh, turn_of, total, total_below, ticket_in, passes_in, turn_in, opening_view, IsTrueSight, IsTrueView, IsHome, Placed, Ruled}
use Rattle.turn_lock.specs.Steps.{staged, IsPassAt, joined, spent, drew, Recalls}
use Rattle.turn_lock.proofs.Totals.{total_set, total_append, each_set, each_append, each_at}
use Rattle.turn_lock.proofs.Entries.{one_further, by_rest}

module _ {V F E : Type 0} (fixed : V → F) (entries : V → List E) (number : E → ℕ) (f : F) (b : List E) (callers : ℕ) where
  abbrev pub S : Type 0
  S = State (Option V) (View F E)

  abbrev pub Seat_ : Type 0
  Seat_ = Me (Option V) (View F E)

  abbrev pub R : S → Type 0
  R = Ruled fixed entries number f b callers

  -- the slot does not see a step after which as many views have the turn
  pub stays_placed : (history : List E) (s s' : S) → s'.homes ≡ s.homes → total turn_in s'.views ≡ total turn_in s.views → Placed fixed entries f history s → Placed fixed entries f history s'
  stays_placed history s s' same_homes same_turns placed =
      let P : ℕ → List (maybe.Option (Option V)) → Type 0 = λ n hs. ((n ≡ 0) × IsHome fixed entries f history hs) ⊎ ((n ≡ 1) × (hs ≡ maybe.none ∷ [])) in
      subst (λ n. P n s'.homes) (sym same_turns) (subst (λ hs. P (total turn_in s.views) hs) (sym same_homes) placed)

  pub draws : (id slots : ℕ) (me : Seat_) → IsPassAt me.0 Idle → Allows R slots id me 0 (λ n. (n + 1) % 2 ^ 64) (drew (step slots 0 1 0 maybe.none) me)
  draws id slots me p s r deep at small =
      let w : View F E = staged me.0 (Waiting r.drawn) in
      let vs : List (View F E) = set s.views id w in
      let idle : (g : ℕ → ℕ) → ticket_in g me.0 ≡ 0 = λ g. ap (λ (v : View F E). ticket_in g v) p.is in
      let no_turn : turn_in me.0 ≡ 0 = ap (λ (v : View F E). turn_in v) p.is in
      let true_now = each_at (IsTrueView number f b r.since r.served) s.views id me.0 r.views at in
      let found : get_or s.words 0 0 ≡ r.drawn % 2 ^ 64 = ap (λ ws. get_or ws 0 0) r.words in (
        w,
        keeps,
        tt,
        record {
          since = r.since;
          drawn = suc r.drawn;
          served = r.served;
          few = r.few;
          words = ap (λ ws. set ws 0 ((get_or ws 0 0 + 1) % 2 ^ 64)) r.words ∙ ap (λ n. n ∷ r.served % 2 ^ 64 ∷ []) (one_further r.drawn);
          tickets = λ g. let a = total_set (ticket_in g) s.views id me.0 w at in let z = idle g in let t = r.tickets g in omega (arith, a, z, t);
          numbers = λ g z. let a = total_set (passes_in g) s.views id me.0 w at in let t = r.numbers g z in omega (arith, a, t);
          placed = stays_placed (b ++ r.since) s (record { words = s.words; homes = s.homes; views = vs }) refl (let a = total_set turn_in s.views id me.0 w at in omega (arith, a, no_turn)) r.placed;
          authors = r.authors;
          views = each_set (IsTrueView number f b r.since r.served) s.views id w r.views (record { sights = true_now.sights; stage = (p.sight, ap (λ (v : View F E). v.sights) p.is, p.numbered) });
        },
        (r.drawn, found, refl),
      )

  -- a load by an idle pass, beside whose sight stands that of a note
  pub recalls : (id slots i : ℕ) (t u : Sight F E) (c : List (ℕ × Option V)) → 1 ≤ t.number → u.number ≡ 0
      → Allows R slots id (record { sights = t ∷ u ∷ []; stage = Idle }, c) i (λ n. n) (λ n. Recalls number (record { sights = t ∷ u ∷ []; stage = Idle }, c))
  recalls id slots i t u c counts none s r deep at small =
      let v : View F E = record { sights = t ∷ u ∷ []; stage = Idle } in
      let true_now = each_at (IsTrueView number f b r.since r.served) s.views id v r.views at in
      let mine = true_now.sights.0 in
      let told = true_now.sights.1.0 in
      let more : List E = mine.prefix.0 in
      let goes : r.since ≡ t.since ++ more = mine.prefix.1 in
      let w : View F E = alone (grown t more) Idle in
      let vs : List (View F E) = set s.views id w in (
        w,
        keeps,
        tt,
        record {
          since = r.since;
          drawn = r.drawn;
          served = r.served;
          few = r.few;
          words = set-get_or s.words i 0 ∙ r.words;
          tickets = λ g. let a = total_set (ticket_in g) s.views id v w at in let k = r.tickets g in omega (arith, a, k);
          numbers = λ g z. let a = total_set (passes_in g) s.views id v w at in let k = r.numbers g z in let o : g u.number ≡ 0 = ap g none ∙ z in omega (arith, a, k, o);
          placed = stays_placed (b ++ r.since) s (record { words = s.words; homes = s.homes; views = vs }) refl (let a = total_set turn_in s.views id v w at in omega (arith, a)) r.placed;
          authors = r.authors;
          views = each_set (IsTrueView number f b r.since r.served) s.views id w r.views (record {
            sights = (record { fixed = mine.fixed; began_is = mine.began_is; prefix = ([], goes ∙ sym (append-nil (t.since ++ more))); own = λ _. ap (entries_by number t.number) goes }, tt);
            stage = tt;
          });
        },
        record {
          sight = t;
          told = u;
          more = more;
          was = refl;
          now = refl;
          others = by_rest number t.number t.since more (sym (ap (entries_by number t.number) goes) ∙ mine.own counts);
          alike = told.began_is ∙ sym mine.began_is;
          begins = (told.prefix.0, sym goes ∙ told.prefix.1);
        },
      )

  -- an idle seat's sights are divided, or copied without a number
  pub splits : (id : ℕ) (v : View F E) (ls rs : List (Sight F E)) → v.stage ≡ Idle
      → ((g : ℕ → ℕ) → g 0 ≡ 0 → total (λ t. g t.number) ls + total (λ t. g t.number) rs ≡ passes_in g v)
      → ((since : List E) → Each (IsTrueSight number f b since) v.sights → Each (IsTrueSight number f b since) ls × Each (IsTrueSight number f b since) rs)
      → Splits R id v (record { sights = ls; stage = Idle }) (record { sights = rs; stage = Idle })
  splits id v ls rs idle parts truth s r at =
      let w : View F E = record { sights = ls; stage = Idle } in
      let u : View F E = record { sights = rs; stage = Idle } in
      let vs : List (View F E) = set s.views id w in
      let true_now = each_at (IsTrueView number f b r.since r.served) s.views id v r.views at in
      let both = truth r.since true_now.sights in
      let no_ticket : (g : ℕ → ℕ) → ticket_in g v ≡ 0 = λ g. ap (λ st. weigh g st) idle in
      let no_turn : turn_in v ≡ 0 = ap (λ st. turn_of st) idle in record {
        since = r.since;
        drawn = r.drawn;
        served = r.served;
        few = r.few;
        words = r.words;
        tickets = λ g. let a = total_set (ticket_in g) s.views id v w at in let c = total_append (ticket_in g) vs (u ∷ []) in let z = no_ticket g in let k = r.tickets g in omega (arith, a, c, z, k);
        numbers = λ g z. let a = total_set (passes_in g) s.views id v w at in let c = total_append (passes_in g) vs (u ∷ []) in let k = r.numbers g z in let e = parts g z in omega (arith, a, c, k, e);
        placed = stays_placed (b ++ r.since) s (record { words = s.words; homes = s.homes; views = vs ++ u ∷ [] }) refl
            (let a = total_set turn_in s.views id v w at in let c = total_append turn_in vs (u ∷ []) in omega (arith, a, c, no_turn)) r.placed;
        authors = r.authors;
        views = each_append (IsTrueView number f b r.since r.served) vs (u ∷ []) (each_set (IsTrueView number f b r.since r.served) s.views id w r.views (record { sights = both.0; stage = tt })) (record { sights = both.1; stage = tt }, tt);
      }

  pub joins : (id other : ℕ) (v w : View F E) → v.stage ≡ Idle → w.stage ≡ Idle → Joins R id v other w (joined v w) spent
  joins id other v w idle idle' s r at apart at' =
      let j : View F E = joined v w in
      let vs : List (View F E) = set s.views id j in
      let Good : View F E → Type 0 = IsTrueView number f b r.since r.served in
      let mine = each_at Good s.views id v r.views at in
      let theirs = each_at Good s.views other w r.views (sym (set_else s.views id other j apart) ∙ at') in
      let no_ticket : (g : ℕ → ℕ) (x : View F E) → x.stage ≡ Idle → ticket_in g x ≡ 0 = λ g x e. ap (λ st. weigh g st) e in
      let no_turn : (x : View F E) → x.stage ≡ Idle → turn_in x ≡ 0 = λ x e. ap (λ st. turn_of st) e in record {
        since = r.since;
        drawn = r.drawn;
        served = r.served;
        few = r.few;
        words = r.words;
        tickets = λ g. let a = total_set (ticket_in g) s.views id v j at in let c = total_set (ticket_in g) vs other w spent at' in let z = no_ticket g v idle in let z' = no_ticket g w idle' in let k = r.tickets g in omega (arith, a, c, z, z', k);
        numbers = λ g z. let a = total_set (passes_in g) s.views id v j at in let c = total_set (passes_in g) vs other w spent at' in let k = r.numbers g z in
            let e = total_append (λ (t : Sight F E). g t.number) v.sights w.sights in omega (arith, a, c, k, e);
        placed = stays_placed (b ++ r.since) s (record { words = s.words; homes = s.homes; views = set vs other spent }) refl
            (let a = total_set turn_in s.views id v j at in let c = total_set turn_in vs other w spent at' in let z = no_turn v idle in let z' = no_turn w idle' in omega (arith, a, c, z, z')) r.placed;
        authors = r.authors;
        views = each_set Good vs other spent (each_set Good s.views id j r.views (record { sights = each_append (IsTrueSight number f b r.since) v.sights w.sights mine.sights theirs.sights; stage = tt })) (record { sights = tt; stage = tt });
      }

  -- the numbers of the first view, weighed
  numbered : (g : ℕ → ℕ) (a n : ℕ) → total (λ t. g t.number) (map (fresh f b) (range_with_len a n)) + total_below g a ≡ total_below g (a + n)
  numbered g a zero = let e : total_below g (a + 0) ≡ total_below g a = ap (total_below g) (add-zero a) in omega (arith, e)
  numbered g a (suc n) = let h = numbered g (a + 1) n in let e : total_below g (a + 1) ≡ total_below g a + g a = ap (total_below g) (add-one a) in
      let l : a + 1 + n ≡ a + suc n = omega arith in let e' : total_below g (a + 1 + n) ≡ total_below g (a + suc n) = ap (total_below g) l in omega (arith, h, e, e')

  all_true : (a n : ℕ) → Each (IsTrueSight number f b []) (map (fresh f b) (range_with_len a n))
  all_true a zero = tt
  all_true a (suc n) = (record { fixed = refl; began_is = refl; prefix = ([], refl); own = λ _. refl }, all_true (a + 1) n)

  pub opens : (x : V) → fixed x ≡ f → entries x ≡ b → callers ≤ 64 → R (opening (0 ∷ 0 ∷ []) (Some x ∷ []) (opening_view f b callers))
  opens x fx bx few = record {
    since = [];
    drawn = 0;
    served = 0;
    few = few;
    words = refl;
    tickets = λ g. refl;
    numbers = λ g z. let h = numbered g 1 callers in let l : 1 + callers ≡ suc callers = omega arith in let e : total_below g (1 + callers) ≡ total_below g (suc callers) = ap (total_below g) l in omega (arith, h, e, z);
    placed = inl (refl, record { value = x; there = refl; fixed_is = fx; entries_are = bx ∙ sym (append-nil b) });
    authors = tt;
    views = (record { sights = all_true 1 callers; stage = tt }, tt);
  }
