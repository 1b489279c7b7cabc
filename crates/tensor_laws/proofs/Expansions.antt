-- Identities of polynomials over the whole numbers: a tensor's phase, its rounding, and the product of two factors.
use Rattle.std.proofs.Common.{◌≡◌, ℕ, ◌<◌, refl, ap, ◌∙◌, sym, arith}
use Rattle.std.specs.Prelude.{ℤ, pos, ◌+ℤ◌, ◌*ℤ◌}
use Rattle.ring_spec.specs.Ring.{wrapped, plus, minus, times}
use Rattle.ring_laws.proofs.Integers.{sums, times_sum}
use Rattle.ring_laws.proofs.Products.{wrapped_same, wrapped_commutes, wrapped_sum_left, wrapped_sum_right, wrapped_difference_left, wrapped_times_left, wrapped_times_right}
use Rattle.ring_laws.proofs.Associates.{wrapped_associates}

-- the phase of three parts: a + b * s + c * s^2
abbrev pub of_three : ℕ → (ℕ → ℤ) → (ℕ → ℤ) → (ℕ → ℤ) → (ℕ → ℤ) → ℕ → ℤ
of_three n s a b c = plus (plus a (wrapped n b s)) (wrapped n c (wrapped n s s))

-- the phase of the products of the parts is the product of the phases
pub three_is : (n : ℕ) (s a b c d : ℕ → ℤ) (i : ℕ) → i < n →
    of_three n s (wrapped n a c) (plus (wrapped n a d) (wrapped n b c)) (wrapped n b d) i ≡ wrapped n (plus a (wrapped n b s)) (plus c (wrapped n d s)) i
three_is n s a b c d i l =
    let bs = wrapped n b s in let ds = wrapped n d s in let ss = wrapped n s s in
    let last : wrapped n bs ds i ≡ wrapped n (wrapped n b d) ss i =
    wrapped_associates n b s ds i l
    ∙ wrapped_same n b (wrapped n s ds) b (wrapped n d ss) i l (λ k p. refl) (λ k p. wrapped_commutes n s ds k p ∙ wrapped_associates n d s s k p)
    ∙ sym (wrapped_associates n b d ss i l) in
    let middle : wrapped n bs c i ≡ wrapped n (wrapped n b c) s i =
    wrapped_associates n b s c i l
    ∙ wrapped_same n b (wrapped n s c) b (wrapped n c s) i l (λ k p. refl) (λ k p. wrapped_commutes n s c k p)
    ∙ sym (wrapped_associates n b c s i l) in
    omega (
      arith,
      sums,
      last,
      middle,
      wrapped_sum_left n a bs (plus c ds) i,
      wrapped_sum_right n a c ds i l,
      wrapped_sum_right n bs c ds i l,
      wrapped_associates n a d s i l,
      wrapped_sum_left n (wrapped n a d) (wrapped n b c) s i,
    )

-- how far q times polynomials is from t times others
abbrev pub gap : ℕ → ℕ → (ℕ → ℤ) → (ℕ → ℤ) → ℕ → ℤ
gap q t o x = minus (times (pos q) o) (times (pos t) x)

-- q times the phase of three parts is t times that of three others, and the phase of what is between them
pub rounded_is : (q t n : ℕ) (s a b c x y z : ℕ → ℤ) (i : ℕ) → i < n →
    pos q *ℤ of_three n s a b c i ≡ pos t *ℤ of_three n s x y z i +ℤ of_three n s (gap q t a x) (gap q t b y) (gap q t c z) i
rounded_is q t n s a b c x y z i l =
    let ss = wrapped n s s in
    omega (
      arith,
      sums,
      times_sum (pos q) (a i +ℤ wrapped n b s i) (wrapped n c ss i),
      times_sum (pos q) (a i) (wrapped n b s i),
      times_sum (pos t) (x i +ℤ wrapped n y s i) (wrapped n z ss i),
      times_sum (pos t) (x i) (wrapped n y s i),
      wrapped_difference_left n (times (pos q) b) (times (pos t) y) s i,
      wrapped_difference_left n (times (pos q) c) (times (pos t) z) ss i,
      wrapped_times_left n (pos q) b s i,
      wrapped_times_left n (pos t) y s i,
      wrapped_times_left n (pos q) c ss i,
      wrapped_times_left n (pos t) z ss i,
    )

-- where t times each factor is q times a whole part and a rest
pub squared_is : (q t n : ℕ) (p r m o v w : ℕ → ℤ) → ((i : ℕ) → i < n → pos t *ℤ p i ≡ pos q *ℤ m i +ℤ v i) → ((i : ℕ) → i < n → pos t *ℤ r i ≡ pos q *ℤ o i +ℤ w i) → (i : ℕ) → i < n →
    pos t *ℤ (pos t *ℤ wrapped n p r i) ≡ pos q *ℤ (pos q *ℤ wrapped n m o i) +ℤ pos q *ℤ plus (wrapped n m w) (wrapped n v o) i +ℤ wrapped n v w i
squared_is q t n p r m o v w left right i l =
    let T = times (pos t) in let Q = times (pos q) in
    let a : pos t *ℤ (pos t *ℤ wrapped n p r i) ≡ wrapped n (T p) (T r) i =
    sym (wrapped_times_left n (pos t) p (T r) i ∙ ap (λ (z : ℤ). pos t *ℤ z) (wrapped_times_right n (pos t) p r i l)) in
    let b : wrapped n (T p) (T r) i ≡ wrapped n (plus (Q m) v) (plus (Q o) w) i = wrapped_same n (T p) (T r) (plus (Q m) v) (plus (Q o) w) i l left right in
    let c : wrapped n (Q m) (plus (Q o) w) i ≡ pos q *ℤ (pos q *ℤ wrapped n m o i) +ℤ pos q *ℤ wrapped n m w i =
    wrapped_times_left n (pos q) m (plus (Q o) w) i
    ∙ ap (λ (z : ℤ). pos q *ℤ z) (wrapped_sum_right n m (Q o) w i l ∙ ap (λ (z : ℤ). z +ℤ wrapped n m w i) (wrapped_times_right n (pos q) m o i l))
    ∙ times_sum (pos q) (pos q *ℤ wrapped n m o i) (wrapped n m w i) in
    omega (
      arith,
      sums,
      a,
      b,
      c,
      wrapped_sum_left n (Q m) v (plus (Q o) w) i,
      wrapped_sum_right n v (Q o) w i l,
      wrapped_times_right n (pos q) v o i l,
      times_sum (pos q) (wrapped n m w i) (wrapped n v o i),
    )
