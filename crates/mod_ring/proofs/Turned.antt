-- A loop that writes coefficient i to the place i * g modulo 2n, for g odd and n a power of two: no place
-- is written twice, so each entry is the whole sum of what comes to it.
use Rattle.std.proofs.Common.{◌≡◌, ℕ, suc, ◌+◌, ◌-◌, ◌*◌, ◌/◌, ◌%◌, ◌^◌, ◌<◌, ◌≤◌, List, length, get_or, set, replicate, cond, refl, sym, ap, ◌∙◌, inl, inr, arith, ◌≢◌, get_or-set_other, get_or-set_same}
use Rattle.std.specs.Prelude.{ℤ, pos, ◌+ℤ◌, neg_ℤ, nat_eq}
use Rattle.std.proofs.Math.Nat.{mod-add-mod, mod-eq_of_lt}
use Rattle.std.proofs.lemmas.Bool.{cases_eq, cases_lt, cond-true, cond-false, eq-eqb, ne_eqb}
use Rattle.std.proofs.lemmas.Nat.{mod-mul-add}
use Rattle.std.proofs.lemmas.List.{get_or-replicate}
use Rattle.std.proofs.lemmas.List.FromFn.{fill_by_all}
use Rattle.ring_spec.specs.Ring.{residue, residues, total, moved, turned, coefficient, ring_turned}
use Rattle.ring_laws.proofs.Integers.{sums}
use Rattle.ring_laws.proofs.Totals.{total_same, total_zero}
use Rattle.ring_laws.proofs.TurnSizes.{odd_places}

-- a place p below n or from n on modulo 2n is k modulo n
place_low : (n p k : ℕ) → k < n → p % (2 * n) ≡ k → p % n ≡ k
place_low n p k h e =
    ap (λ (x : ℕ). x % n) (let e' : p ≡ 2 * (p / (2 * n)) * n + k = omega (arith, e) in e') ∙ mod-mul-add (2 * (p / (2 * n))) n k h

place_high : (n p k : ℕ) → k < n → p % (2 * n) ≡ k + n → p % n ≡ k
place_high n p k h e =
    ap (λ (x : ℕ). x % n) (let e' : p ≡ (2 * (p / (2 * n)) + 1) * n + k = omega (arith, e) in e') ∙ mod-mul-add (2 * (p / (2 * n)) + 1) n k h

-- what coefficient i gives to coefficient k, by its place r
moved_low : (n g : ℕ) (a : ℕ → ℤ) (k i : ℕ) → i * g % (2 * n) ≡ k → moved n g a k i ≡ a i
moved_low n g a k i e = cond-true (nat_eq (i * g % (2 * n)) k) (a i) (cond (nat_eq (i * g % (2 * n)) (k + n)) (neg_ℤ (a i)) (pos 0)) (eq-eqb (i * g % (2 * n)) k e)

moved_high : (n g : ℕ) (a : ℕ → ℤ) (k i : ℕ) → 0 < n → i * g % (2 * n) ≡ k + n → moved n g a k i ≡ neg_ℤ (a i)
moved_high n g a k i h e =
    cond-false (nat_eq (i * g % (2 * n)) k) (a i) (cond (nat_eq (i * g % (2 * n)) (k + n)) (neg_ℤ (a i)) (pos 0)) (ne_eqb (i * g % (2 * n)) k (λ e'. omega arith))
    ∙ cond-true (nat_eq (i * g % (2 * n)) (k + n)) (neg_ℤ (a i)) (pos 0) (eq-eqb (i * g % (2 * n)) (k + n) e)

moved_none : (n g : ℕ) (a : ℕ → ℤ) (k i : ℕ) → (i * g % (2 * n) ≡ k → ⊥) → (i * g % (2 * n) ≡ k + n → ⊥) → moved n g a k i ≡ pos 0
moved_none n g a k i e e' =
    cond-false (nat_eq (i * g % (2 * n)) k) (a i) (cond (nat_eq (i * g % (2 * n)) (k + n)) (neg_ℤ (a i)) (pos 0)) (ne_eqb (i * g % (2 * n)) k e)
    ∙ cond-false (nat_eq (i * g % (2 * n)) (k + n)) (neg_ℤ (a i)) (pos 0) (ne_eqb (i * g % (2 * n)) (k + n) e')

-- nothing came before to the place that coefficient i goes to
same_place : (n d g i j k : ℕ) → n ≡ 2 ^ d → g % 2 ≡ 1 → i < n → j < n → i * g % n ≡ k → j * g % n ≡ k → j ≡ i
same_place n d g i j k power odd l l' e e' =
    odd_places g d j i odd (omega (arith, power)) (omega (arith, power))
    (ap (λ (x : ℕ). j * g % x) (sym power) ∙ e' ∙ sym e ∙ ap (λ (x : ℕ). i * g % x) power)

none_before : (n d g : ℕ) (a : ℕ → ℤ) (k i : ℕ) → n ≡ 2 ^ d → g % 2 ≡ 1 → i < n → k < n → i * g % n ≡ k → total i (moved n g a k) ≡ pos 0
none_before n d g a k i power odd l h e =
    total_same i (moved n g a k) (λ j. pos 0)
    (λ j p. moved_none n g a k j
    (λ e'. let same : j ≡ i = same_place n d g i j k power odd l (omega arith) e (place_low n (j * g) k h e') in omega arith)
    (λ e'. let same : j ≡ i = same_place n d g i j k power odd l (omega arith) e (place_high n (j * g) k h e') in omega arith))
    ∙ total_zero i

-- the entries hold what coefficients 0 to i - 1 give, and coefficient i goes to the place
pub record Turned (q n g : ℕ) (f now : List ℕ) (i place : ℕ) : Type 0 where
  pub here : place ≡ i * g % (2 * n)
  pub done : (k : ℕ) → k < n → get_or now k 0 ≡ residue q (total i (moved n g (coefficient f) k))

pub Turned-start : (q n g : ℕ) (f now : List ℕ) → 0 < n → 0 < q → now ≡ replicate n 0 → Turned q n g f now 0 0
unfolding total residue
Turned-start q n g f now h p e = record {
  here = omega arith;
  done = λ k l. ap (λ (z : List ℕ). get_or z k 0) e ∙ get_or-replicate n k 0 0 l ∙ (omega arith);
}

-- an entry that is not written
kept : (q n g : ℕ) (a : ℕ → ℤ) (k i x : ℕ) → (i * g % (2 * n) ≡ k → ⊥) → (i * g % (2 * n) ≡ k + n → ⊥) → x ≡ residue q (total i (moved n g a k)) → x ≡ residue q (total (suc i) (moved n g a k))
unfolding total
kept q n g a k i x e e' is =
    is ∙ ap (residue q) (sym (ap (λ (z : ℤ). total i (moved n g a k) +ℤ z) (moved_none n g a k i e e') ∙ (omega (arith, sums))))

-- an entry that is written
written : (q n d g : ℕ) (a : ℕ → ℤ) (k i x : ℕ) (z : ℤ) → n ≡ 2 ^ d → g % 2 ≡ 1 → i < n → k < n → i * g % n ≡ k → moved n g a k i ≡ z → x ≡ residue q z → x ≡ residue q (total (suc i) (moved n g a k))
unfolding total
written q n d g a k i x z power odd l h e m is =
    is ∙ ap (residue q) (sym (ap (λ (y : ℤ). y +ℤ moved n g a k i) (none_before n d g a k i power odd l h e) ∙ ap (λ (y : ℤ). pos 0 +ℤ y) m ∙ (omega (arith, sums))))

itself : (q x : ℕ) → x < q → x ≡ residue q (pos x)
unfolding residue
itself q x l = sym (mod-eq_of_lt l)

next_is : (n g i place : ℕ) → place ≡ i * g % (2 * n) → (place + g) % (2 * n) ≡ (i + 1) * g % (2 * n)
next_is n g i place e =
    ap (λ (x : ℕ). (x + g) % (2 * n)) e ∙ mod-add-mod (i * g) (2 * n) g ∙ ap (λ (x : ℕ). x % (2 * n)) (let t : i * g + g ≡ (i + 1) * g = omega arith in t)

pub Turned-next : (q n d g : ℕ) (f now new : List ℕ) (i place next x : ℕ) → n ≡ 2 ^ d → g % 2 ≡ 1 → i < n → length now ≡ n → x ≡ get_or f i 0 → x < q → place < 2 * n →
    (place < n → new ≡ set now place x) → (n ≤ place → new ≡ set now (place - n) (residue q (neg_ℤ (pos x)))) → next ≡ (place + g) % (2 * n) →
    Turned q n g f now i place → Turned q n g f new (i + 1) next
Turned-next q n d g f now new i place next x power odd l len is below lt low high to t = record {
  here = to ∙ next_is n g i place t.here;
  done = λ k h. rw one (elim (cases_lt place n) [
    | inl p ↦ rw (low p) (first k h p)
    | inr p ↦ rw (high p) (second k h p)
  ]);
}
  where
    one : i + 1 ≡ suc i
    one = omega arith

    a : ℕ → ℤ
    a = coefficient f

    kept_here : (k : ℕ) → k < n → (place ≡ k → ⊥) → (place ≡ k + n → ⊥) → get_or now k 0 ≡ residue q (total (suc i) (moved n g a k))
    kept_here k h e e' = kept q n g a k i (get_or now k 0) (λ z. e (t.here ∙ z)) (λ z. e' (t.here ∙ z)) (t.done k h)

    at_place : (k r y v : ℕ) → r < length now → k ≡ r → y ≡ v → get_or (set now r y) k 0 ≡ v
    at_place k r y v r< e e' = rw (e, get_or-set_same) e'

    first : (k : ℕ) → k < n → place < n → get_or (set now place x) k 0 ≡ residue q (total (suc i) (moved n g a k))
    first k h p = elim (cases_eq k place) [
      | inl e ↦
          at_place k place x (residue q (total (suc i) (moved n g a k))) (omega (arith, len)) e
          (written q n d g a k i x (pos x) power odd l h (place_low n (i * g) k h (sym t.here ∙ sym e)) (moved_low n g a k i (sym t.here ∙ sym e) ∙ ap pos (sym is)) (itself q x below))
      | inr ne ↦
          let other : k ≢ place = ne in
          rw get_or-set_other (kept_here k h (λ e. ne (sym e)) (λ e. omega arith))
    ]

    second : (k : ℕ) → k < n → n ≤ place → get_or (set now (place - n) (residue q (neg_ℤ (pos x)))) k 0 ≡ residue q (total (suc i) (moved n g a k))
    second k h p = elim (cases_eq k (place - n)) [
      | inl e ↦
          let high_place : i * g % (2 * n) ≡ k + n = sym t.here ∙ (omega arith) in
          at_place k (place - n) (residue q (neg_ℤ (pos x))) (residue q (total (suc i) (moved n g a k))) (omega (arith, len)) e
          (written q n d g a k i (residue q (neg_ℤ (pos x))) (neg_ℤ (pos x)) power odd l h (place_high n (i * g) k h high_place) (moved_high n g a k i (omega arith) high_place ∙ ap (λ (z : ℕ). neg_ℤ (pos z)) (sym is)) refl)
      | inr ne ↦
          let other : k ≢ place - n = ne in
          rw get_or-set_other (kept_here k h (λ e. omega arith) (λ e. ne (omega arith)))
    ]

pub Turned-end : (q n g : ℕ) (f now : List ℕ) (i place : ℕ) → length now ≡ n → i ≡ n → Turned q n g f now i place → now ≡ ring_turned q n g f
unfolding ring_turned residues turned
Turned-end q n g f now i place len e t =
    fill_by_all (λ k. residue q (total n (moved n g (coefficient f) k))) now n 0 len (λ k h. t.done k h ∙ ap (λ (x : ℕ). residue q (total x (moved n g (coefficient f) k))) e)
