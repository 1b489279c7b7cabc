-- A loop that writes an entry after the other: what is written below a place, and what is as it was.
use Rattle.std.proofs.Common.{◌≡◌, ℕ, ◌+◌, ◌<◌, ◌≤◌, List, length, get_or, set, map, refl, arith, ◌≢◌, get_or-set_other, get_or-set_same, below_more}
use Rattle.std.specs.List.{range_with_len}
use Rattle.std.proofs.lemmas.List.FromFn.{fill_by_all}

-- entry k is e k for k below i, and that of the list was from i on
pub record Filled (e : ℕ → ℕ) (was now : List ℕ) (i : ℕ) : Type 0 where
  pub done : (k : ℕ) → k < i → get_or now k 0 ≡ e k
  pub rest : (k : ℕ) → i ≤ k → get_or now k 0 ≡ get_or was k 0

pub Filled-start : (e : ℕ → ℕ) (was : List ℕ) → Filled e was was 0
Filled-start e was = record { done = λ k h. absurd (omega arith); rest = λ k h. refl }

pub Filled-next : (e : ℕ → ℕ) (was now : List ℕ) (i v : ℕ) → i < length now → v ≡ e i → Filled e was now i → Filled e was (set now i v) (i + 1)
Filled-next e was now i v lt is f = record {
  done = below_more _ _
      (λ k h. let ne : k ≢ i = omega arith in rw get_or-set_other (f.done k h))
      (rw get_or-set_same is);
  rest = λ k h. let ne : k ≢ i = omega arith in rw get_or-set_other (f.rest k (omega arith));
}

-- once i has come to the end, the list is that of all entries
pub Filled-end : (e : ℕ → ℕ) (was now : List ℕ) (n i : ℕ) → length now ≡ n → n ≤ i → Filled e was now i → now ≡ map e (range_with_len 0 n)
Filled-end e was now n i len le f = fill_by_all e now n 0 len (λ k h. f.done k (omega arith))
