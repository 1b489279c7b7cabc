-- What holds at the place of a node, where it holds at the places of its operands.
use Rattle.std.proofs.Common.{◌≡◌, ℕ, ◌*◌, ◌%◌, ◌≤◌, ◌<◌, true, false, not, ◌&&◌, ltb, eqb, List, [], ◌∷◌, length, replicate, refl, subst, inl, inr, arith}
use Rattle.std.specs.Prelude.{Option, Some, None, All, nat_eq, nat_le, nat_lt}
use Rattle.std.specs.List.{slice_get, list_all}
use Rattle.std.proofs.lemmas.Bool.{cases_Bool, ltb-true, eqb-true}
use Rattle.std.proofs.lemmas.List.{length-replicate}
use Rattle.std.proofs.lemmas.List.Elements.{All-nil, All-cons, All-get_or, All-from_get_or}
use Rattle.std.proofs.lemmas.List.{get_or-replicate}
use Rattle.ring_spec.specs.Ring.{IsPoly, ring_product}
use Rattle.ring_spec.specs.Pairs.{Cipher, CipherFits}
use Rattle.bfv_spec.specs.Scheme.{cipher_sum, cipher_difference, cipher_negative, cipher_multiple, trivial, delta, Carries}
use Rattle.ring_laws.proofs.Residues.{sum_poly, difference_poly, negative_poly, multiple_poly, product_poly}
use Rattle.ring_laws.proofs.Rings.{ring_product_commutes}
use Rattle.bfv_laws.proofs.Sums.{sum_carries}
use Rattle.param_set.specs.declared.params.Params.{Params}
use Rattle.circuit_form.specs.declared.node.Node.{Node}
use Rattle.circuit_form.specs.declared.node.Node.TheVariants.{Input, Const, Add, Sub, Neg, Mul, Rot}
use Rattle.circuit_form.specs.Circuits.{fits, may_stand, is_const, is_full, owners}
use Rattle.circuit_form.specs.Values.{entry, node_value, given_after}
use Rattle.param_set.specs.Numbers.{numbers_of}
use Rattle.noise_ledger.specs.Bounds.{numbers_for, sum_bound, neg_bound, plain_mul_bound}
use Rattle.noise_ledger.specs.Ledger.{bound_at, product_bound, node_bound}
use Rattle.cipher_spec.specs.Keys.{Keys}
use Rattle.cipher_spec.specs.Ciphers.{no_cipher, cipher_at, const_of, const_at, product_cipher, node_cipher}
use Rattle.circuit_laws.specs.Carrying.{AreInputs}
use Rattle.circuit_laws.specs.Switches.{AreKeysFor}
use Rattle.circuit_laws.proofs.Places.{Holds, Each, AllWithin, both_pass, one_fails}
use Rattle.circuit_laws.proofs.Switches.{rotation_holds, full_holds}
use Rattle.circuit_laws.proofs.Multiples.{difference_carries, negative_carries, multiple_carries, trivial_carries}

-- a constant's place names its value
const_is : (o : Option Node) → is_const o ≡ true → o ≡ Some (Const (const_of o))
const_is None e = cc
const_is (Some (Input owner)) e = cc
const_is (Some (Const value)) e = refl
const_is (Some (Add left right)) e = cc
const_is (Some (Sub left right)) e = cc
const_is (Some (Neg of)) e = cc
const_is (Some (Mul left right)) e = cc
const_is (Some (Rot g of)) e = cc

each_below : (t : ℕ) (value : List ℕ) → list_all (λ x. nat_lt x t) value ≡ true → All (λ x. x < t) value
each_below t [] e = All-nil (λ x. x < t)
each_below t (x ∷ xs) e =
    let both = both_pass (ltb x t) (list_all (λ y. nat_lt y t) xs) e in
    All-cons (λ y. y < t) x xs (ltb-true x t both.0) (each_below t xs both.1)

-- a constant that may stand is a plaintext
const_plain : (n t : ℕ) (value : List ℕ) → fits n t value ≡ true → IsPoly t n value
const_plain n t value e =
    let both = both_pass (eqb (length value) n) (list_all (λ x. nat_lt x t) value) e in
    record { entries = eqb-true (length value) n both.0; below = each_below t value both.1 }

-- ---- the nodes by their kinds

-- no coefficient but 0
zero_poly : (q n : ℕ) → 0 < q → IsPoly q n (replicate n 0)
zero_poly q n h = record {
  entries = length-replicate {A = ℕ} n 0;
  below = All-from_get_or (λ x. x < q) (replicate n 0) 0 (λ i l. let l' : i < n = omega (arith, length-replicate {A = ℕ} n 0) in rw (get_or-replicate {A = ℕ} n i 0 0 l') h);
}

-- a product of an operand's ciphertext with a plaintext
times_holds : (p : Params) (threshold : ℕ) (s : List ℕ) (nodes : List Node) (k left right v : ℕ) (c : Cipher) (a b : List ℕ) →
    0 < p.q → 0 < p.t → slice_get nodes k ≡ Some (Mul left right) → Carries p.q p.n p.t s v c a → IsPoly p.t p.n a → IsPoly p.t p.n b →
    Holds p s nodes k (plain_mul_bound (numbers_for p threshold) v) (cipher_multiple p.q p.n c b) (ring_product p.t p.n a b)
unfolding plain_mul_bound cipher_multiple
times_holds p threshold s nodes k left right v c a b h ht at carried pa pb = record {
  carries = multiple_carries p.q p.n p.t v c a b s h ht pa pb carried;
  plain = product_poly p.t p.n a b ht;
  fits = record { c0 = product_poly p.q p.n c.c0 b h; c1 = product_poly p.q p.n c.c1 b h };
  named = λ value e. cc;
}

product_holds : (p : Params) (threshold : ℕ) (keys : Keys) (s : List ℕ) (nodes : List Node) (k left right : ℕ) (bounds : List ℕ) (ciphers : List Cipher) (plains : List (List ℕ)) →
    0 < p.q → 0 < p.t → Each p s nodes k bounds ciphers plains → left < k → right < k →
    (not (is_const (slice_get nodes left)) && not (is_const (slice_get nodes right))) ≡ false → slice_get nodes k ≡ Some (Mul left right) →
    Holds p s nodes k (product_bound (numbers_for p threshold) nodes bounds left right) (product_cipher (numbers_of p) keys nodes ciphers left right)
    (ring_product p.t p.n (entry plains left) (entry plains right))
unfolding product_bound product_cipher
product_holds p threshold keys s nodes k left right bounds ciphers plains h ht each l r full at =
    let one = each left l in let two = each right r in
    let a = entry plains left in let b = entry plains right in
    let v = bound_at bounds left in let w = bound_at bounds right in
    let c = cipher_at ciphers left in let d = cipher_at ciphers right in
    elim (one_fails (is_const (slice_get nodes left)) (is_const (slice_get nodes right)) full) [
      | inl e ↦
          let is : b ≡ const_at nodes right = two.named (const_at nodes right) (const_is (slice_get nodes right) e) in
          let all = times_holds p threshold s nodes k left right v c a b h ht at one.carries one.plain two.plain in
          rw e (subst (λ (m : List ℕ). Holds p s nodes k (plain_mul_bound (numbers_for p threshold) v) (cipher_multiple p.q p.n c m) (ring_product p.t p.n a b)) is all)
      | inr e ↦
          let is : a ≡ const_at nodes left = one.named (const_at nodes left) (const_is (slice_get nodes left) e.1) in
          let all = times_holds p threshold s nodes k left right w d b a h ht at two.carries two.plain one.plain in
          rw (e.0, e.1, ring_product_commutes p.t p.n a b)
          (subst (λ (m : List ℕ). Holds p s nodes k (plain_mul_bound (numbers_for p threshold) w) (cipher_multiple p.q p.n d m) (ring_product p.t p.n b a)) is all)
    ]

-- the next place, whatever node stands there
pub node_holds : (p : Params) (threshold : ℕ) (keys : Keys) (s : List ℕ) (nodes : List Node) (values : List (List ℕ)) (inputs : List Cipher) (k given : ℕ)
    (bounds : List ℕ) (ciphers : List Cipher) (plains : List (List ℕ)) (node : Node) →
    0 < p.q → 0 < p.t → AreKeysFor p threshold s nodes keys → IsPoly p.q p.n s → AreInputs p threshold s nodes values inputs → Each p s nodes k bounds ciphers plains →
    AllWithin p threshold nodes k bounds → slice_get nodes k ≡ Some node → may_stand p.n p.t p.parties k node ≡ true →
    given_after given node ≤ length (owners nodes) →
    Holds p s nodes k (node_bound (numbers_for p threshold) nodes bounds node) (node_cipher (numbers_of p) keys inputs nodes ciphers given node) (node_value p.n p.t values plains given node)
unfolding may_stand node_bound node_cipher node_value given_after sum_bound neg_bound cipher_sum cipher_difference cipher_negative trivial
node_holds p threshold keys s nodes values inputs k given bounds ciphers plains (Input owner) h ht owned secret ready each within at stands few = record {
  carries = ready.carry given (omega arith);
  plain = All-get_or (IsPoly p.t p.n) values given [] (omega (arith, ready.polys)) ready.plain;
  fits = All-get_or (CipherFits p.q p.n) inputs given no_cipher (omega (arith, ready.ciphers)) ready.fit;
  named = λ v e. cc;
}
node_holds p threshold keys s nodes values inputs k given bounds ciphers plains (Const value) h ht owned secret ready each within at stands few = record {
  carries = trivial_carries p.q p.n p.t value s h;
  plain = const_plain p.n p.t value stands;
  fits = record { c0 = multiple_poly p.q p.n (delta p.q p.t) value h; c1 = zero_poly p.q p.n h };
  named = λ v e. cc;
}
node_holds p threshold keys s nodes values inputs k given bounds ciphers plains (Add left right) h ht owned secret ready each within at stands few =
    let both = both_pass (ltb left k) (ltb right k) stands in
    let one = each left (ltb-true left k both.0) in let two = each right (ltb-true right k both.1) in
    let c = cipher_at ciphers left in let d = cipher_at ciphers right in
    record {
      carries = sum_carries p.q p.n p.t (bound_at bounds left) (bound_at bounds right) c d (entry plains left) (entry plains right) s h ht one.plain two.plain one.carries two.carries;
      plain = sum_poly p.t p.n (entry plains left) (entry plains right) ht;
      fits = record { c0 = sum_poly p.q p.n c.c0 d.c0 h; c1 = sum_poly p.q p.n c.c1 d.c1 h };
      named = λ v e. cc;
    }
node_holds p threshold keys s nodes values inputs k given bounds ciphers plains (Sub left right) h ht owned secret ready each within at stands few =
    let both = both_pass (ltb left k) (ltb right k) stands in
    let one = each left (ltb-true left k both.0) in let two = each right (ltb-true right k both.1) in
    let c = cipher_at ciphers left in let d = cipher_at ciphers right in
    record {
      carries = difference_carries p.q p.n p.t (bound_at bounds left) (bound_at bounds right) c d (entry plains left) (entry plains right) s h ht one.plain two.plain one.carries two.carries;
      plain = difference_poly p.t p.n (entry plains left) (entry plains right) ht;
      fits = record { c0 = difference_poly p.q p.n c.c0 d.c0 h; c1 = difference_poly p.q p.n c.c1 d.c1 h };
      named = λ v e. cc;
    }
node_holds p threshold keys s nodes values inputs k given bounds ciphers plains (Neg of) h ht owned secret ready each within at stands few =
    let one = each of (ltb-true of k stands) in
    let c = cipher_at ciphers of in
    record {
      carries = negative_carries p.q p.n p.t (bound_at bounds of) c (entry plains of) s h ht one.plain one.carries;
      plain = negative_poly p.t p.n (entry plains of) ht;
      fits = record { c0 = negative_poly p.q p.n c.c0 h; c1 = negative_poly p.q p.n c.c1 h };
      named = λ v e. cc;
    }
node_holds p threshold keys s nodes values inputs k given bounds ciphers plains (Mul left right) h ht owned secret ready each within at stands few =
    let both = both_pass (ltb left k) (ltb right k) stands in
    elim (cases_Bool (is_full nodes (Mul left right))) [
      | inl full ↦ full_holds p threshold keys s nodes k left right bounds ciphers plains h ht owned secret each within (ltb-true left k both.0) (ltb-true right k both.1) full at
      | inr full ↦ product_holds p threshold keys s nodes k left right bounds ciphers plains h ht each (ltb-true left k both.0) (ltb-true right k both.1) full at
    ]
node_holds p threshold keys s nodes values inputs k given bounds ciphers plains (Rot g of) h ht owned secret ready each within at stands few =
    let place = both_pass (nat_eq (g % 2) 1 && nat_le 3 g && nat_lt g (2 * p.n)) (nat_lt of k) stands in
    let most = both_pass (nat_eq (g % 2) 1 && nat_le 3 g) (nat_lt g (2 * p.n)) place.0 in
    let odd = both_pass (nat_eq (g % 2) 1) (nat_le 3 g) most.0 in
    rotation_holds p threshold keys s nodes k g of bounds ciphers plains h ht owned each (ltb-true of k place.1) (eqb-true (g % 2) 1 odd.0) at
