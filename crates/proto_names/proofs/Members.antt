-- The members of a set, one party after the other.
use Rattle.std.proofs.Common.{◌≡◌, ℕ, zero, suc, ◌+◌, ◌-◌, ◌*◌, ◌/◌, ◌%◌, ◌^◌, ◌<◌, ◌≤◌, List, [], ◌∷◌, ◌++◌, length, take, min, cond, true, false, inl, inr, refl, sym, ap, ◌∙◌, arith}
use Rattle.std.specs.Prelude.{filter, nat_le, nat_eq, ◌&&◌, bit_or}
use Rattle.std.specs.Int.{bit_at}
use Rattle.std.proofs.lemmas.Bool.{and_right, and_from, cases_lt, cases_eq, ne_eqb, eq-eqb, le-leb, cond-true, cond-false, cond_both}
use Rattle.std.proofs.lemmas.Nat.{pow_pos, or_comm, or_shifted, one_shl}
use Rattle.std.proofs.lemmas.Nat.Bits.{bit_at_above, bit_at_cat_high, bit_at_cat_low}
use Rattle.std.proofs.Math.Nat.{pow-suc}
use Rattle.std.proofs.lemmas.List.{length-append, length-take, append-nil, take_all, take-append-le}
use Rattle.std.specs.List.{range_with_len}
use Rattle.std.proofs.lemmas.List.Elements.{filter-append}
use Rattle.share_spec.specs.Sets.{has, members_to, members}

range_more : (n a : ℕ) → range_with_len a (suc n) ≡ range_with_len a n ++ (a + n) ∷ []
range_more zero a = ap (λ (z : ℕ). z ∷ []) (omega arith)
range_more (suc n) a = ap (λ (zs : List ℕ). a ∷ zs) (range_more n (a + 1) ∙ ap (λ (z : ℕ). range_with_len (a + 1) n ++ z ∷ []) (omega arith))

-- one more party
pub members_more : (set n : ℕ) → members_to (n + 1) set ≡ members_to n set ++ cond (has set (n + 1)) ((n + 1) ∷ []) []
unfolding members_to
members_more set n =
    (let e : n + 1 ≡ suc n = omega arith in ap (λ (z : ℕ). filter (has set) (range_with_len 1 z)) e)
    ∙ ap (filter (has set)) (range_more n 1) ∙ filter-append (has set) (range_with_len 1 n) ((1 + n) ∷ [])
    ∙ ap (λ (z : ℕ). filter (has set) (range_with_len 1 n) ++ cond (has set z) (z ∷ []) []) (omega arith)

-- no party
pub members_none : (set : ℕ) → members_to 0 set ≡ []
unfolding members_to
members_none set = refl

-- all 32 of them
pub members_all : (set : ℕ) → members set ≡ members_to 32 set
unfolding members
members_all set = refl

-- and how many they are then
pub count_more : (set n : ℕ) → length (members_to (n + 1) set) ≡ length (members_to n set) + cond (has set (n + 1)) 1 0
count_more set n =
    ap length (members_more set n) ∙ length-append (members_to n set) (cond (has set (n + 1)) ((n + 1) ∷ []) [])
    ∙ ap (λ (z : ℕ). length (members_to n set) + z) (cond_both (has set (n + 1)) ((n + 1) ∷ []) [] (λ (xs : List ℕ). length xs ≡ cond (has set (n + 1)) 1 0)
    (λ e. sym (cond-true (has set (n + 1)) 1 0 e)) (λ e. sym (cond-false (has set (n + 1)) 1 0 e)))

pub ruleset one_by_one = (count_more, members_none, members_all)

-- ---- the least members, chosen among the parties 1 to n

-- bits that lie below place n are no parties above n
pub has_above : (bits n : ℕ) → bits < 2 ^ n → has bits (n + 1) ≡ false
unfolding has
has_above bits n h =
    and_right (nat_le 1 (n + 1) && nat_le (n + 1) 32) (nat_eq (bits / 2 ^ (n + 1 - 1) % 2) 1)
    (ne_eqb (bits / 2 ^ (n + 1 - 1) % 2) 1 (λ e. let z : bit_at bits n ≡ 0 = bit_at_above bits n n h (omega arith) in
    let same : n + 1 - 1 ≡ n = omega arith in let one : bits / 2 ^ n % 2 ≡ 1 = (rw same at e) in absurd (omega arith)))

-- with bit n too, they are party n + 1
pub has_new : (bits n : ℕ) → bits < 2 ^ n → n < 32 → has (2 ^ n + bits) (n + 1) ≡ true
unfolding has
has_new bits n h l =
    and_from (nat_le 1 (n + 1) && nat_le (n + 1) 32) (nat_eq ((2 ^ n + bits) / 2 ^ (n + 1 - 1) % 2) 1)
    (and_from (nat_le 1 (n + 1)) (nat_le (n + 1) 32) (le-leb 1 (n + 1) (omega arith)) (le-leb (n + 1) 32 (omega arith)))
    (eq-eqb ((2 ^ n + bits) / 2 ^ (n + 1 - 1) % 2) 1
    (let same : n + 1 - 1 ≡ n = omega arith in
    let e : bit_at (1 * 2 ^ n + bits) n ≡ bit_at 1 (n - n) = bit_at_cat_high 1 n bits n h (omega arith) in
    let none : n - n ≡ 0 = omega arith in
    let f : bit_at 1 (n - n) ≡ 1 = rw none refl in
    let once : 2 ^ n + bits ≡ 1 * 2 ^ n + bits = omega arith in
    rw (same, once) (e ∙ f)))

-- and the same parties up to n
pub has_old : (bits n p : ℕ) → p ≤ n → has (2 ^ n + bits) p ≡ has bits p
unfolding has
has_old bits n p h = elim (cases_eq p 0) [
  | inl e ↦ rw e refl
  | inr ne ↦
      let once : 2 ^ n + bits ≡ 1 * 2 ^ n + bits = omega arith in
      let e : bit_at (1 * 2 ^ n + bits) (p - 1) ≡ bit_at bits (p - 1) = bit_at_cat_low 1 n bits (p - 1) (omega arith) in
      ap (λ (z : ℕ). nat_le 1 p && nat_le p 32 && nat_eq z 1) (rw once e)
]

-- two sets with the same parties up to n have the same members there
pub members_same : (a b n m : ℕ) → n ≤ m → ((p : ℕ) → p ≤ m → has a p ≡ has b p) → members_to n a ≡ members_to n b
members_same a b zero m l h = members_none a ∙ sym (members_none b)
members_same a b (suc n) m l h =
    let e : suc n ≡ n + 1 = omega arith in
    rw (e, members_more a n, members_more b n, members_same a b n m (omega arith) h, h (n + 1) (omega arith)) refl

-- the k least members of a set among the parties 1 to n, as bits, and how many they are
pub record Chosen (set k bits taken n : ℕ) : Type 0 where
  pub small : bits < 2 ^ n
  pub chosen : members_to n bits ≡ take k (members_to n set)
  pub many : taken ≡ length (members_to n bits)

take_nil : (k : ℕ) → take {A = ℕ} k [] ≡ []
take_nil zero = refl
take_nil (suc k) = refl

pub Chosen-start : (set k : ℕ) → Chosen set k 0 0 0
Chosen-start set k = record { small = omega arith; chosen = members_none 0 ∙ sym (ap (take k) (members_none set) ∙ take_nil k); many = ap length (sym (members_none 0)) }

pub double : (n : ℕ) → 2 ^ (n + 1) ≡ 2 * 2 ^ n
double n = ap (λ (z : ℕ). 2 ^ z) (let e : n + 1 ≡ suc n = omega arith in e) ∙ pow-suc 2 n ∙ omega arith

-- party n + 1 is taken
pub Chosen-takes : (set k bits taken n : ℕ) → Chosen set k bits taken n → taken < k → has set (n + 1) ≡ true → n < 32 → Chosen set k (2 ^ n + bits) (taken + 1) (n + 1)
Chosen-takes set k bits taken n c l m lt =
    let M = members_to n set in
    let fewer : length (take k M) < k = omega (arith, c.many, ap length c.chosen) in
    let short : length M < k = omega (arith, length-take k M) in
    let all : take k M ≡ M = take_all k M (omega arith) in
    let same : members_to n (2 ^ n + bits) ≡ members_to n bits = members_same (2 ^ n + bits) bits n n (omega arith) (λ p h. has_old bits n p h) in
    let now : members_to (n + 1) (2 ^ n + bits) ≡ M ++ (n + 1) ∷ [] =
    members_more (2 ^ n + bits) n ∙ rw (has_new bits n c.small lt, same) (ap (λ (xs : List ℕ). xs ++ (n + 1) ∷ []) (c.chosen ∙ all)) in
    let next : members_to (n + 1) set ≡ M ++ (n + 1) ∷ [] = members_more set n ∙ rw m refl in
    record {
      small = omega (arith, double n);
      chosen = now ∙ sym (ap (take k) next ∙ take_all k (M ++ (n + 1) ∷ []) (omega (arith, length-append M ((n + 1) ∷ []))));
      many = omega (arith, c.many, ap length now, length-append M ((n + 1) ∷ []), ap length c.chosen, ap length all);
    }

-- it is left, since it is no member or enough are taken
pub Chosen-leaves : (set k bits taken n : ℕ) → Chosen set k bits taken n → (taken < k → has set (n + 1) ≡ false) → Chosen set k bits taken (n + 1)
Chosen-leaves set k bits taken n c h =
    let M = members_to n set in
    let same : members_to (n + 1) bits ≡ members_to n bits = members_more bits n ∙ rw (has_above bits n c.small) (append-nil (members_to n bits)) in
    let next : take k (members_to (n + 1) set) ≡ take k M = (elim (cases_lt taken k) [
      | inl less ↦ ap (take k) (members_more set n ∙ rw (h less) (append-nil M))
      | inr enough ↦ ap (take k) (members_more set n) ∙ take-append-le k M (cond (has set (n + 1)) ((n + 1) ∷ []) []) (omega (arith, c.many, ap length c.chosen, length-take k M))
    ]) in
    record {
      small = omega (arith, double n, pow_pos n);
      chosen = same ∙ c.chosen ∙ sym next;
      many = c.many ∙ ap length (sym same);
    }

-- the code sets bit n
pub with_bit : (bits n : ℕ) → bits < 2 ^ n → n < 32 → bit_or bits (1 * 2 ^ n % 2 ^ 32) ≡ 2 ^ n + bits
with_bit bits n h l =
    ap (bit_or bits) (one_shl n 32 l) ∙ or_comm bits (2 ^ n)
    ∙ ap (λ (z : ℕ). bit_or z bits) (let e : 2 ^ n ≡ 1 * 2 ^ n = omega arith in e) ∙ or_shifted 1 n bits h ∙ omega arith

-- k are taken where there are as many
pub Chosen-enough : (set k bits taken n : ℕ) → Chosen set k bits taken n → taken ≡ min k (length (members_to n set))
Chosen-enough set k bits taken n c = c.many ∙ ap length c.chosen ∙ length-take k (members_to n set)
