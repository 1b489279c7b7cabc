-- How the passes are made one by one, and joined one by one.
use Rattle.std.proofs.Common.{◌≡◌, ◌⊎◌, ℕ, zero, suc, ◌+◌, ◌-◌, ◌<◌, ◌≤◌, Option, Some, None, option_to_list, List, [], ◌∷◌, ◌++◌, map, take, drop, length, slice_get, slice_index_or, All, sym, refl, ap, ◌∙◌, subst, arith, inl, inr, ⊎_elim, append_assoc, append-nil, length-append}
use Rattle.std.specs.List.{range_with_len}
use mathlib.Core.Option.{some, some-injective}
use mathlib.Core.Logic.{dite}
use native.Mathlib.Decide.{ℕ_discrete}
use lib.ListN.{get_elem?}
use Rattle.atomic_table.specs.Table.{Me, Final, Seen, opening}
use Rattle.atomic_table.specs.Seated.{TableId}
use Rattle.atomic_table.proofs.Lists.{at_longer, at_last}
use Rattle.turn_lock.specs.declared.kept.Kept.{Ghosts}
use Rattle.turn_lock.specs.declared.pass.Pass.{Pass}
use Rattle.turn_lock.specs.declared.view.Sight.{Sight}
use Rattle.turn_lock.specs.declared.view.Stage.TheVariants.{Idle}
use Rattle.turn_lock.specs.declared.view.View.{View}
use Rattle.turn_lock.specs.Views.{Each, entries_by, fresh, fixed_in, began_in, since_in}
use Rattle.turn_lock.specs.Rule.{total, one_each, opening_view, IsBy, IsTrueSight, IsTrueView, Ruled}
use Rattle.turn_lock.specs.Steps.{joined, kept_back, handed_out}
use Rattle.turn_lock.specs.Gathering.{Knows, GathersFrom, Gathers}
use Rattle.turn_lock.specs.Passes.{IsNewPass, AreNew, IsWhole}
use Rattle.turn_lock.proofs.Totals.{total_append, each_at}
use Rattle.turn_lock.proofs.Keeps.{opens}
use Rattle.turn_lock.proofs.Taking.{one_sight}
use Rattle.turn_lock.proofs.TurnKeeps.{some_is, rests}

-- the numbers that are left, with the next one in front
pub next_number : (n k : ℕ) → k < n → range_with_len (k + 1) (n - k) ≡ (k + 1) ∷ range_with_len (k + 1 + 1) (n - (k + 1))
next_number n k h = let e : n - k ≡ suc (n - (k + 1)) = omega arith in ap (range_with_len (k + 1)) e

module _ {A : Type 0} where
  -- the item behind the front xs
  get_here : (xs ys : List A) (x p : A) → slice_get (xs ++ x ∷ ys) (length xs) ≡ Some p → x ≡ p
  get_here [] ys x p e = cc
  get_here (a ∷ xs) ys x p e = get_here xs ys x p e

  at_here : (xs ys : List A) (x : A) → slice_get (xs ++ x ∷ ys) (length xs) ≡ Some x
  at_here [] ys x = refl
  at_here (a ∷ xs) ys x = at_here xs ys x

  pub popped : (ps rest : List A) (o : Option A) (q : A) → ps ≡ rest ++ option_to_list o → o ≡ Some q → ps ≡ rest ++ q ∷ []
  popped ps rest o q is some_q = is ∙ ap (λ x. rest ++ option_to_list x) some_q

  pub at_last_place : (ps rest : List A) (q : A) → ps ≡ rest ++ q ∷ [] → slice_get ps (length rest) ≡ Some q
  at_last_place ps rest q is = ap (λ l. slice_get l (length rest)) is ∙ at_here rest [] q

  pub at_place : (ps items rest tail : List A) (q : A) → ps ≡ items ++ tail → items ≡ rest ++ q ∷ [] → slice_get ps (length rest) ≡ Some q
  at_place ps items rest tail q whole is = ap (λ l. slice_get l (length rest)) (whole ∙ (ap (λ l. l ++ tail) is ∙ append_assoc rest (q ∷ []) tail)) ∙ at_here rest tail q

  pub moved_on : (ps items rest tail : List A) (q : A) → ps ≡ items ++ tail → items ≡ rest ++ q ∷ [] → ps ≡ rest ++ (q ∷ tail)
  moved_on ps items rest tail q whole is = whole ∙ (ap (λ l. l ++ tail) is ∙ append_assoc rest (q ∷ []) tail)

  -- the item at k, in the words of the public contracts
  item_get : (xs : List A) (k : ℕ) (d : A) → k < length xs → slice_get xs k ≡ Some (slice_index_or xs k d)
  item_get [] k d h = absurd (omega arith)
  item_get (x ∷ xs) zero d h = refl
  item_get (x ∷ xs) (suc k) d h = item_get xs k d (omega arith)

  get_item : (xs : List A) (k : ℕ) (p : A) → slice_get xs k ≡ Some p → (k < length xs) × (slice_index_or xs k p ≡ p)
  get_item [] k p e = absurd cc
  get_item (x ∷ xs) zero p e = let h : x ≡ p = cc in (omega arith, h)
  get_item (x ∷ xs) (suc k) p e = let h = get_item xs k p e in let l = h.0 in (omega (arith, l), h.1)

  get_front : (xs : List A) (x p : A) (k : ℕ) → slice_get (xs ++ x ∷ []) k ≡ Some p → (slice_get xs k ≡ Some p) ⊎ ((k ≡ length xs) × (x ≡ p))
  get_front [] x p zero e = inr (refl, cc)
  get_front [] x p (suc k) e = absurd cc
  get_front (a ∷ xs) x p zero e = inl e
  get_front (a ∷ xs) x p (suc k) e = ⊎_elim (λ h. inl h) (λ h. inr (ap suc h.0, h.1)) (get_front xs x p k e)

  none_there : (xs : List A) (k : ℕ) (p : A) → slice_get xs k ≡ Some p → length xs ≤ k → ⊥
  none_there [] k p e h = cc
  none_there (a ∷ xs) zero p e h = omega arith
  none_there (a ∷ xs) (suc k) p e h = none_there xs k p e (omega arith)

module _ {V F E : Type 0} {K : Ghosts V F E} where
  pub lock_get : (lock : TableId) (ps : List (Pass V F E K)) (k : ℕ) (p : Pass V F E K) → All (λ q. q.seat.table_id ≡ lock) ps → slice_get ps k ≡ Some p → p.seat.table_id ≡ lock
  lock_get lock ps k p all e = let h = get_item ps k p e in subst (λ q. q.seat.table_id ≡ lock) h.1 (all k p h.0)

  added : (lock : TableId) (k : ℕ) (f : F) (es : List E) (ps : List (Pass V F E K)) (q : Pass V F E K) → AreNew lock k f es ps → IsNewPass lock (k + 1) f es q → AreNew lock (k + 1) f es (ps ++ q ∷ [])
  added lock k f es ps q made new = record {
    count = let c = made.count in omega (arith, length-append ps (q ∷ []), c);
    each = λ j d l. let p = slice_index_or (ps ++ q ∷ []) j d in ⊎_elim (λ h. let g = get_item ps j p h in subst (IsNewPass lock (j + 1) f es) g.1 (made.each j p g.0))
        (λ h. let j_is : j ≡ k = h.0 ∙ made.count in subst (λ (z : ℕ × Pass V F E K). IsNewPass lock (z.0 + 1) f es z.1) (λ i. (sym j_is i, h.1 i)) new) (get_front ps q p j (item_get (ps ++ q ∷ []) j d l));
  }

  pub one_more : (lock : TableId) (k : ℕ) (f : F) (es : List E) (ps ps' : List (Pass V F E K)) (q : Pass V F E K) → ps' ≡ ps ++ q ∷ [] → AreNew lock k f es ps
      → q.seat.table_id ≡ lock → q.number ≡ k + 1 → q.seat.me ≡ (record { sights = fresh f es (k + 1) ∷ []; stage = Idle }, []) → AreNew lock (k + 1) f es ps'
  one_more lock k f es ps ps' q is made of_lock number me =
      let v = ap (λ m. m.0) me in
      subst (AreNew lock (k + 1) f es) (sym is) (added lock k f es ps q made (of_lock, number, ap fixed_in v, ap began_in v, ap since_in v))

  knows_itself : (q : Pass V F E K) → Knows q.seat.me.0 q
  knows_itself q = let o = one_sight q.seat.me.0.sights q.number q.numbered in record { sight = o.0; alone = o.1; place = 0; there = ap (λ ts. get_elem? ts 0) o.1 }

  one_in : (q : Pass V F E K) → total (λ (t : Sight F E). one_each t.number) q.seat.me.0.sights ≡ 1
  one_in q =
      let o = one_sight q.seat.me.0.sights q.number q.numbered in
      let one : one_each o.0.number ≡ 1 = ap one_each o.2 ∙ some_is q.number q.counts in
      let e : total (λ (t : Sight F E). one_each t.number) q.seat.me.0.sights ≡ one_each o.0.number + 0 = ap (total (λ (t : Sight F E). one_each t.number)) o.1 in omega (arith, one, e)

  -- those from the place k on are q and those behind it
  places : (rest tail : List (Pass V F E K)) (q p : Pass V F E K) (ps : List (Pass V F E K)) (k : ℕ) (B : Type 0) → ps ≡ (rest ++ q ∷ []) ++ tail → length rest ≤ k → slice_get ps k ≡ Some p → (q ≡ p → B) → (length rest + 1 ≤ k → B) → B
  places rest tail q p ps k B is low at here later = dite (ℕ_discrete k (length rest))
      (λ e. here (get_here rest tail q p (subst (λ (z : List (Pass V F E K) × ℕ). slice_get z.0 z.1 ≡ Some p) (λ i. ((is ∙ append_assoc rest (q ∷ []) tail) i, e i)) at)))
      (λ ne. later (omega arith))

  pub starts : (ps rest : List (Pass V F E K)) (q : Pass V F E K) → ps ≡ rest ++ q ∷ [] → GathersFrom (length rest) ps q.seat.me.0
  starts ps rest q is = record {
    each = λ k p low at. places rest [] q p ps k (Knows q.seat.me.0 p) (is ∙ sym (append-nil (rest ++ q ∷ []))) low at (λ e. subst (Knows q.seat.me.0) e (knows_itself q))
        (λ far. ⊎_elim (λ h. absurd (none_there rest k p h (omega arith))) (λ h. absurd (let e = h.0 in omega arith)) (get_front rest q p k (subst (λ l. slice_get l k ≡ Some p) is at)));
    count = let o = one_in q in let l : length ps ≡ length (rest ++ q ∷ []) = ap length is in omega (arith, o, l, length-append rest (q ∷ []));
  }

  goes_on_here : (ps rest tail : List (Pass V F E K)) (q : Pass V F E K) (v : View F E) → ps ≡ (rest ++ q ∷ []) ++ tail → GathersFrom (length (rest ++ q ∷ [])) ps v → GathersFrom (length rest) ps (joined v q.seat.me.0)
  goes_on_here ps rest tail q v is so_far =
      let l : length (rest ++ q ∷ []) ≡ length rest + 1 = length-append rest (q ∷ []) in record {
        each = λ k p low at. places rest tail q p ps k (Knows (joined v q.seat.me.0) p) is low at
            (λ e. subst (Knows (joined v q.seat.me.0)) e (let o = one_sight q.seat.me.0.sights q.number q.numbered in record {
              sight = o.0;
              alone = o.1;
              place = length v.sights;
              there = ap (λ ts. get_elem? (v.sights ++ ts) (length v.sights)) o.1 ∙ at_last v.sights o.0 (length v.sights) refl;
            }))
            (λ far. let h = so_far.each k p (omega (arith, l)) at in record { sight = h.sight; alone = h.alone; place = h.place; there = at_longer v.sights q.seat.me.0.sights h.place h.sight h.there });
        count = let o = one_in q in let c = so_far.count in let t = total_append (λ (t : Sight F E). one_each t.number) v.sights q.seat.me.0.sights in omega (arith, o, c, t, l);
      }

  pub goes_on : (ps items rest tail : List (Pass V F E K)) (q : Pass V F E K) (v v' : View F E) → ps ≡ items ++ tail → items ≡ rest ++ q ∷ [] → v' ≡ joined v q.seat.me.0 → GathersFrom (length items) ps v → GathersFrom (length rest) ps v'
  goes_on ps items rest tail q v v' whole is now so_far =
      subst (GathersFrom (length rest) ps) (sym now) (goes_on_here ps rest tail q v (whole ∙ ap (λ l. l ++ tail) is) (subst (λ l. GathersFrom (length l) ps v) is so_far))

  pub all_in : (n : ℕ) (ps : List (Pass V F E K)) (v : View F E) → n ≡ 0 → GathersFrom n ps v → Gathers ps v
  all_in n ps v none h = subst (λ k. GathersFrom k ps v) none h

  -- what is known at the end, when one seat has gathered all passes
  ends : (f : F) (b : List E) (callers id : ℕ) (v : View F E) (ps : List (Pass V F E K)) (ws : List ℕ) (xs : List (Option V)) (slot : Option V)
      → Final (Seen (Ruled K.fixed K.entries K.number f b callers) id v) ws xs → v.stage ≡ Idle → Gathers ps v → length ps ≡ callers → get_elem? xs 0 ≡ some slot
      → (x : V) × (slot ≡ Some x) × IsWhole x ps
  ends f b callers id v ps ws xs slot fin idle all count at =
      let s = fin.0 in
      let r : Ruled K.fixed K.entries K.number f b callers s = fin.1.0 in
      let here : get_elem? s.views id ≡ some v = fin.1.1 in
      let home = rests K.fixed K.entries K.number f b callers s r id v here idle (let c = all.count in omega (arith, c, count)) in
      let good : IsTrueView K.number f b r.since r.served v = each_at (IsTrueView K.number f b r.since r.served) s.views id v r.views here in
      let sight_of : (p : Pass V F E K) → Knows v p → (t : Sight F E) × (p.seat.me.0.sights ≡ t ∷ []) × IsTrueSight K.number f b r.since t =
      λ p h. (h.sight, h.alone, each_at (IsTrueSight K.number f b r.since) v.sights h.place h.sight good.sights h.there) in
      let view_of : (p : Pass V F E K) (t : Sight F E) → p.seat.me.0.sights ≡ t ∷ [] → p.seat.me.0 ≡ record { sights = t ∷ []; stage = Idle } = λ p t e. λ i. record { sights = e i; stage = p.idle i } in (
        home.value,
        some-injective slot (Some home.value) (sym at ∙ fin.4 0 (Some home.value) (ap (λ hs. get_elem? hs 0) home.there)),
        record {
          later = r.since;
          authors = subst (λ n. Each (IsBy K.number n) r.since) (sym count) r.authors;
          each = λ k d l.
              let p = slice_index_or ps k d in
              let known = all.each k p (omega arith) (item_get ps k d l) in
              let g = sight_of p known in
              let o = one_sight p.seat.me.0.sights p.number p.numbered in
              let t_is : o.0 ≡ g.0 = (let a : o.0 ∷ [] ≡ g.0 ∷ [] = sym o.1 ∙ g.1 in cc) in
              let n_is : g.0.number ≡ p.number = sym (ap (λ t. t.number) t_is) ∙ o.2 in
              let counts : 1 ≤ g.0.number = (let c = p.counts in omega (arith, n_is, c)) in
              let v_is = view_of p g.0 g.1 in record {
                fixed = ap fixed_in v_is ∙ ap Some (g.2.fixed ∙ sym home.fixed_is);
                whole = home.entries_are ∙ ap (λ l. l ++ r.since) (sym (ap began_in v_is ∙ g.2.began_is));
                prefix = (g.2.prefix.0, g.2.prefix.1 ∙ ap (λ l. l ++ g.2.prefix.0) (sym (ap since_in v_is)));
                own = subst (λ n. entries_by K.number n r.since ≡ entries_by K.number n g.0.since) n_is (g.2.own counts) ∙ ap (entries_by K.number p.number) (sym (ap since_in v_is));
              };
        },
      )

  pub ends_some : (f : F) (b : List E) (callers id : ℕ) (v : View F E) (ps : List (Pass V F E K)) (ws : List ℕ) (xs : List (Option V)) (slot : Option V) (y : V)
      → Final (Seen (Ruled K.fixed K.entries K.number f b callers) id v) ws xs → v.stage ≡ Idle → Gathers ps v → length ps ≡ callers → get_elem? xs 0 ≡ some slot → slot ≡ Some y → IsWhole y ps
  ends_some f b callers id v ps ws xs slot y fin idle all count at is =
      let r = ends f b callers id v ps ws xs slot fin idle all count at in
      let e : Some r.0 ≡ Some y = sym r.1 ∙ is in
      let same_value : r.0 ≡ y = cc in subst (λ x. IsWhole x ps) same_value r.2

  pub ends_none : (f : F) (b : List E) (callers id : ℕ) (v : View F E) (ps : List (Pass V F E K)) (ws : List ℕ) (xs : List (Option V)) (slot : Option V)
      → Final (Seen (Ruled K.fixed K.entries K.number f b callers) id v) ws xs → v.stage ≡ Idle → Gathers ps v → length ps ≡ callers → get_elem? xs 0 ≡ some slot → slot ≡ None → ⊥
  ends_none f b callers id v ps ws xs slot fin idle all count at is =
      let r = ends f b callers id v ps ws xs slot fin idle all count at in
      let e : Some r.0 ≡ None = sym r.1 ∙ is in cc

-- the first view as its numbers are handed out
module _ {V F E : Type 0} (f : F) (es : List E) (n k : ℕ) (m : Me (Option V) (View F E)) where
  pub handed : (m' : Me (Option V) (View F E)) → m ≡ (record { sights = map (fresh f es) (range_with_len (k + 1) (n - k)); stage = Idle }, []) → m' ≡ (handed_out m.0, []) → k < n
      → m' ≡ (record { sights = fresh f es (k + 1) ∷ []; stage = Idle }, [])
  handed m' is is' h = is' ∙ (ap (λ x. (handed_out x.0, [])) is ∙ ap (λ ns. (record { sights = take 1 (map (fresh f es) ns); stage = Idle }, [])) (next_number n k h))

  pub left_over : (m' : Me (Option V) (View F E)) → m ≡ (record { sights = map (fresh f es) (range_with_len (k + 1) (n - k)); stage = Idle }, []) → m' ≡ (kept_back m.0, m.1) → k < n
      → m' ≡ (record { sights = map (fresh f es) (range_with_len (k + 1 + 1) (n - (k + 1))); stage = Idle }, [])
  left_over m' is is' h = is' ∙ (ap (λ x. (kept_back x.0, x.1)) is ∙ ap (λ ns. (record { sights = drop 1 (map (fresh f es) ns); stage = Idle }, [])) (next_number n k h))

pub opens_at : {V F E : Type 0} (fixed : V → F) (entries : V → List E) (number : E → ℕ) (v value : V) (callers : ℕ) (slots items : List (Option V)) → callers ≤ 64 → v ≡ value → slots ≡ [] → items ≡ slots ++ Some value ∷ []
    → Ruled fixed entries number (fixed v) (entries v) callers (opening (0 ∷ 0 ∷ []) items (opening_view (fixed v) (entries v) callers))
opens_at fixed entries number v value callers slots items few is none one =
    let e : items ≡ Some value ∷ [] = one ∙ ap (λ l. l ++ Some value ∷ []) none in
    subst (λ xs. Ruled fixed entries number (fixed v) (entries v) callers (opening (0 ∷ 0 ∷ []) xs (opening_view (fixed v) (entries v) callers))) (sym e)
    (opens fixed entries number (fixed v) (entries v) callers value (ap fixed (sym is)) (ap entries (sym is)) few)
