use Rattle.std.proofs.Common.{◌≡◌, ◌∙◌, ℕ, zero, suc, ◌+◌, ◌<◌, ◌≤◌, List, [], ◌∷◌, ◌++◌, length, slice_index_or, sym, refl, ap, subst, All, sum_by, arith, length-append}
use Rattle.atomic_table.specs.Seated.{TableId}
use Rattle.turn_lock.specs.declared.kept.Kept.{Ghosts}
use Rattle.turn_lock.specs.declared.pass.Pass.{Pass}
use Rattle.turn_lock.specs.Passes.{lock_of, number_of, seen, began, since, AreNew, AreAll, IsPartOf, IsWhole}
use Rattle.turn_lock.proofs.Gathered.{popped}
use Rattle.lock_tests.specs.declared.sums.Pair.{Pair}
use Rattle.lock_tests.specs.declared.sums.Sums.{Sums}
use Rattle.lock_tests.specs.contracts.sums.SumsKept.TheImpl as the_impl
use Rattle.lock_tests.specs.Sums.{number_in, IsSumIn}
use Rattle.lock_tests.proofs.Knowing.{at_most_end}
use Rattle.lock_tests.proofs.turns.two_callers_make_eight_pairs.Goals as goal

nil_of : {A : Type 0} (l : List A) → length l ≡ 0 → l ≡ []
nil_of [] e = refl
nil_of (x ∷ xs) e = absurd (omega (arith, e))

module _ {V F E : Type 0} {K : Ghosts V F E} where
  two_locks : (lock : TableId) (a b : Pass V F E K) → lock_of a ≡ lock → lock_of b ≡ lock → (k : ℕ) (d : Pass V F E K) → k < 2 → lock_of (slice_index_or (a ∷ b ∷ []) k d) ≡ lock
  two_locks lock a b x y zero d l = x
  two_locks lock a b x y (suc zero) d l = y
  two_locks lock a b x y (suc (suc k)) d l = absurd (omega arith)

  two_numbers : (a b : Pass V F E K) → number_of a ≡ 1 → number_of b ≡ 2 → (k : ℕ) (d : Pass V F E K) → k < 2 → number_of (slice_index_or (a ∷ b ∷ []) k d) ≡ k + 1
  two_numbers a b x y zero d l = x
  two_numbers a b x y (suc zero) d l = y
  two_numbers a b x y (suc (suc k)) d l = absurd (omega arith)

  -- two passes taken out, and two put back
  record Exchanged (ps ps' : List (Pass V F E K)) (a b a' b' : Pass V F E K) : Type 0 where
    before : ps ≡ a ∷ b ∷ []
    after : ps' ≡ a' ∷ b' ∷ []

  exchanged : (ps l1 l2 l3 ps' : List (Pass V F E K)) (a b a' b' : Pass V F E K) → length ps ≡ 2
      → ps ≡ l1 ++ b ∷ [] → l1 ≡ l2 ++ a ∷ [] → l3 ≡ l2 ++ a' ∷ [] → ps' ≡ l3 ++ b' ∷ [] → Exchanged ps ps' a b a' b'
  exchanged ps l1 l2 l3 ps' a b a' b' c e1 e2 e3 e4 =
      let c1 : length ps ≡ length (l1 ++ b ∷ []) = ap length e1 in
      let c2 : length l1 ≡ length (l2 ++ a ∷ []) = ap length e2 in
      let none : l2 ≡ [] = nil_of l2 (omega (arith, c, c1, c2, length-append l1 (b ∷ []), length-append l2 (a ∷ []))) in
      record {
        before = e1 ∙ ap (λ l. l ++ b ∷ []) (e2 ∙ ap (λ l. l ++ a ∷ []) none);
        after = e4 ∙ ap (λ l. l ++ b' ∷ []) (e3 ∙ ap (λ l. l ++ a' ∷ []) none);
      }

  put_back : (lock : TableId) (n : ℕ) (f : F) (es : List E) (ps ps' : List (Pass V F E K)) (a b a' b' : Pass V F E K) → n ≡ 2 → AreNew lock 2 f es ps
      → Exchanged ps ps' a b a' b' → lock_of a' ≡ lock_of a → number_of a' ≡ number_of a → lock_of b' ≡ lock_of b → number_of b' ≡ number_of b → AreAll lock n ps'
  put_back lock n f es ps ps' a b a' b' n_is new x la na lb nb =
      let made : AreNew lock 2 f es (a ∷ b ∷ []) = subst (AreNew lock 2 f es) x.before new in
      let one = made.each 0 a (omega arith) in
      let two = made.each 1 b (omega arith) in
      let done : AreAll lock 2 (a' ∷ b' ∷ []) = record {
        count = refl;
        of_lock = two_locks lock a' b' (la ∙ one.0) (lb ∙ two.0);
        numbers = two_numbers a' b' (na ∙ one.1) (nb ∙ two.1);
      } in
      subst (λ m. AreAll lock m ps') (sym n_is) (subst (AreAll lock 2) (sym x.after) done)

abbrev the_sums : Ghosts Sums (Unit {0}) Pair
the_sums = the_impl.ghosts

-- what the callers of two passes know at the end
record BothKnow (total sum_a sum_b : ℕ) : Type 0 where
  first : sum_a ≤ total
  second : sum_b ≤ total

both_know : (value : Sums) (total sum_a sum_b : ℕ) (ps ps' : List (Pass Sums (Unit {0}) Pair the_sums)) (a b a' b' : Pass Sums (Unit {0}) Pair the_sums)
    → Exchanged ps ps' a b a' b' → IsWhole value ps' → total ≡ sum_by number_in value.pairs.items → IsSumIn (seen a') sum_a → IsSumIn (seen b') sum_b → BothKnow total sum_a sum_b
both_know value total sum_a sum_b ps ps' a b a' b' x whole total_is knows_a knows_b =
    let parts : All (IsPartOf value whole.later) (a' ∷ b' ∷ []) = subst (All (IsPartOf value whole.later)) x.after whole.each in
    let one : IsPartOf value whole.later a' = parts 0 a' (omega arith) in
    let two : IsPartOf value whole.later b' = parts 1 b' (omega arith) in
    record {
      first = omega (arith, total_is, at_most_end value.pairs.items (began a') (since a') whole.later sum_a one.whole one.prefix knows_a);
      second = omega (arith, total_is, at_most_end value.pairs.items (began b') (since b') whole.later sum_b two.whole two.prefix knows_b);
    }

pub close-value-requires-after_bounds : goal.close-value-requires-after_bounds
close-value-requires-after_bounds g c κs =
    put_back _ _ _ _ _ _ _ _ _ _ c.in_ok-lock.ensures.callers c.in_ok-lock.ensures.passes
    (exchanged _ _ _ _ _ c.unwrap-first.result c.unwrap-second.result _ _ c.in_ok-lock.ensures.passes.count
    (popped _ _ _ _ c.pop.ensures.items c.unwrap-second.ensures) (popped _ _ _ _ c.pop-2.ensures.items c.unwrap-first.ensures) c.in_ok-push.ensures.items c.in_ok-push-2.ensures.items)
    (c.round-first-2.ensures.same.0.0 ∙ (c.note-note.ensures.same.0.0 ∙ c.round-first.ensures.same.0.0)) (c.round-first-2.ensures.same.0.1 ∙ (c.note-note.ensures.same.0.1 ∙ c.round-first.ensures.same.0.1))
    (c.round-first-2.ensures.same.1.0 ∙ (c.meet.ensures.same.0 ∙ c.round-first.ensures.same.1.0)) (c.round-first-2.ensures.same.1.1 ∙ (c.meet.ensures.same.1 ∙ c.round-first.ensures.same.1.1))

pub overflow_sub-since_first : goal.overflow_sub-since_first
overflow_sub-since_first g c =
    let x = exchanged _ _ _ _ _ c.unwrap-first.result c.unwrap-second.result _ _ c.in_ok-lock.ensures.passes.count
    (popped _ _ _ _ c.pop.ensures.items c.unwrap-second.ensures) (popped _ _ _ _ c.pop-2.ensures.items c.unwrap-first.ensures) c.in_ok-push.ensures.items c.in_ok-push-2.ensures.items in
    let know = both_know c.close-value.result c.total-total.result _ _ _ _ _ _ _ _ x c.close-value.ensures c.total-total.ensures.all c.round-first-2.ensures.sum_first c.round-first-2.ensures.sum_second in
    know.first

pub overflow_sub-since_second : goal.overflow_sub-since_second
overflow_sub-since_second g c =
    let x = exchanged _ _ _ _ _ c.unwrap-first.result c.unwrap-second.result _ _ c.in_ok-lock.ensures.passes.count
    (popped _ _ _ _ c.pop.ensures.items c.unwrap-second.ensures) (popped _ _ _ _ c.pop-2.ensures.items c.unwrap-first.ensures) c.in_ok-push.ensures.items c.in_ok-push-2.ensures.items in
    let know = both_know c.close-value.result c.total-total.result _ _ _ _ _ _ _ _ x c.close-value.ensures c.total-total.ensures.all c.round-first-2.ensures.sum_first c.round-first-2.ensures.sum_second in
    know.second
