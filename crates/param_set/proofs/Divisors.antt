-- That none of 2 to 32 divides q says that q has no common divisor above 1 with any of them.
use Rattle.std.proofs.Common.{◌≡◌, ◌≢◌, ℕ, zero, suc, ◌+◌, ◌%◌, ◌≤◌, ◌<◌, false, refl, sym, ◌∙◌, inl, inr, arith}
use Rattle.std.specs.Prelude.{IsTrue, not, nat_eq, ◌↔◌}
use Rattle.std.proofs.Math.Nat.{mod_self, mod-eq_of_lt}
use Rattle.std.proofs.lemmas.Bool.{and_parts, and_from, not-true, not_from_false, eqb-false, ne_eqb, cases_Bool, cases_lt, cases_eq}
use Rattle.param_set.specs.Moduli.{indivisible}
use Rattle.param_set.specs.Rules.{SharesNoDivisor}

-- none of 2 to k + 1 divides q
rest_of : (q k d : ℕ) → IsTrue (indivisible q k) → 2 ≤ d → d ≤ k + 1 → q % d ≢ 0
unfolding indivisible
rest_of q zero d h l m = absurd (omega arith)
rest_of q (suc k) d h l m =
    let both = and_parts (indivisible q k) (not (nat_eq (q % (k + 2)) 0)) h in
    elim (cases_eq d (k + 2)) [
      | inl e ↦ rw e (eqb-false (q % (k + 2)) 0 (not-true (nat_eq (q % (k + 2)) 0) both.1))
      | inr ne ↦ rest_of q k d both.0 l (omega arith)
    ]

-- a number that divides one of 2 to 32 is at most that
pub shares_none : (q : ℕ) → IsTrue (indivisible q 31) → SharesNoDivisor q
shares_none q h = λ d m two some few in_q in_m. elim (cases_lt m d) [
  | inl below ↦ omega (arith, some, sym (mod-eq_of_lt below) ∙ in_m)
  | inr fine ↦ rest_of q 31 d h two (omega (arith, few, fine)) in_q
]

all_rest : (q k : ℕ) → k ≤ 31 → SharesNoDivisor q → IsTrue (indivisible q k)
unfolding indivisible
all_rest q zero few h = refl
all_rest q (suc k) few h =
    let rest : q % (k + 2) ≢ 0 = λ e. h (k + 2) (k + 2) (omega arith) (omega arith) (omega arith) e (mod_self (k + 2)) in
    and_from (indivisible q k) (not (nat_eq (q % (k + 2)) 0)) (all_rest q k (omega arith) h) (not_from_false (nat_eq (q % (k + 2)) 0) (ne_eqb (q % (k + 2)) 0 rest))

pub indivisible_shares : (q : ℕ) → IsTrue (indivisible q 31) ↔ SharesNoDivisor q
indivisible_shares q = (shares_none q, all_rest q 31 (omega arith))

-- one number that divides q is enough
pub divided : (q k : ℕ) → k < 31 → q % (k + 2) ≡ 0 → indivisible q 31 ≡ false
divided q k few e = elim (cases_Bool (indivisible q 31)) [
  | inl all ↦ absurd (rest_of q 31 (k + 2) all (omega arith) (omega arith) e)
  | inr some ↦ some
]
