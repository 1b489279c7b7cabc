-- The last levels of the tree, written out for two and for four entries, and one level over two halves.
use Rattle.std.proofs.Common.{◌≡◌, ℕ, zero, suc, ◌+◌, ◌-◌, ◌*◌, ◌%◌, ◌^◌, ◌<◌, List, [], ◌∷◌, ◌++◌, length, get_or, take, drop, inl, inr, refl, sym, ◌∙◌, ap, arith}
use Rattle.std.proofs.Math.Nat.{pow-suc}
use Rattle.std.proofs.lemmas.List.{get_or_append_left, get_or-append_right, get_or-take, get_or-drop}
use Rattle.std.proofs.lemmas.Bool.{cases_lt}
use Rattle.ring_ntt.specs.Transform.{entry}
use Rattle.ring_ntt.specs.Nodes.{folded, node, joined, undone}
use Rattle.ring_ntt.proofs.Congruence.{add_same, mul_same}
use Rattle.ring_ntt.proofs.Tree.{node_same}
use Rattle.ring_ntt.proofs.Undone.{joined_low, joined_high}

-- x + w * y, where x and y are known modulo q
pub step_same : (q w x y u v : ℕ) → x % q ≡ u % q → y % q ≡ v % q → (x + w * y) % q ≡ (u + w * v) % q
step_same q w x y u v e h = add_same q x u (w * y) (w * v) e (mul_same q w w y v refl h)

-- w * (x + (q - 1) * y), likewise
pub back_same : (q w x y u v : ℕ) → x % q ≡ u % q → y % q ≡ v % q → (w * (x + (q - 1) * y)) % q ≡ (w * (u + (q - 1) * v)) % q
back_same q w x y u v e h = mul_same q w w (x + (q - 1) * y) (u + (q - 1) * v) refl (step_same q (q - 1) x y u v e h)

pub node_two : (q : ℕ) (zs : List ℕ) (k : ℕ) (f : ℕ → ℕ) →
    node q zs 1 k f ≡ (f 0 + get_or zs k 0 * f 1) % q ∷ (f 0 + (q - get_or zs k 0) * f 1) % q ∷ []
unfolding node
node_two q zs k f = refl

pub node_four : (q : ℕ) (zs : List ℕ) (k : ℕ) (f : ℕ → ℕ) →
    node q zs 2 k f
    ≡ (f 0 + get_or zs k 0 * f 2 + get_or zs (2 * k) 0 * (f 1 + get_or zs k 0 * f 3)) % q
    ∷ (f 0 + get_or zs k 0 * f 2 + (q - get_or zs (2 * k) 0) * (f 1 + get_or zs k 0 * f 3)) % q
    ∷ (f 0 + (q - get_or zs k 0) * f 2 + get_or zs (2 * k + 1) 0 * (f 1 + (q - get_or zs k 0) * f 3)) % q
    ∷ (f 0 + (q - get_or zs k 0) * f 2 + (q - get_or zs (2 * k + 1) 0) * (f 1 + (q - get_or zs k 0) * f 3)) % q
    ∷ []
unfolding node
node_four q zs k f = refl

pub undone_two : (q : ℕ) (zs : List ℕ) (k a b i : ℕ) → i < 2 →
    undone q zs 1 k (a ∷ b ∷ []) i ≡ get_or ((a + b) ∷ (get_or zs k 0 * (a + (q - 1) * b)) ∷ []) i 0
unfolding undone
undone_two q zs k a b zero l = refl
undone_two q zs k a b (suc zero) l = refl
undone_two q zs k a b (suc (suc i)) l = absurd (omega arith)

-- four entries taken back: two pairs first
pub undone_four : (q : ℕ) (zs : List ℕ) (k a b c d i : ℕ) → i < 4 →
    undone q zs 2 k (a ∷ b ∷ c ∷ d ∷ []) i
    ≡ get_or
    ((a + b + (c + d))
    ∷ (get_or zs (2 * k) 0 * (a + (q - 1) * b) + get_or zs (2 * k + 1) 0 * (c + (q - 1) * d))
    ∷ (get_or zs k 0 * (a + b + (q - 1) * (c + d)))
    ∷ (get_or zs k 0 * (get_or zs (2 * k) 0 * (a + (q - 1) * b) + (q - 1) * (get_or zs (2 * k + 1) 0 * (c + (q - 1) * d))))
    ∷ []) i 0
unfolding undone
undone_four q zs k a b c d zero l = refl
undone_four q zs k a b c d (suc zero) l = refl
undone_four q zs k a b c d (suc (suc zero)) l = refl
undone_four q zs k a b c d (suc (suc (suc zero))) l = refl
undone_four q zs k a b c d (suc (suc (suc (suc i)))) l = absurd (omega arith)

-- what a level leaves in the two halves of a
pub record IsFolded (q w m : ℕ) (a low high : List ℕ) : Type 0 where
  pub sums : (i : ℕ) → i < m → get_or low i 0 % q ≡ (get_or (take m a) i 0 + w * get_or (drop m a) i 0) % q
  pub differences : (i : ℕ) → i < m → get_or high i 0 % q ≡ (get_or (take m a) i 0 + (q - w) * get_or (drop m a) i 0) % q

halves : (w m i : ℕ) (a : List ℕ) → i < m → get_or (take m a) i 0 + w * get_or (drop m a) i 0 ≡ folded m w (entry a) i
halves w m i a l =
    ap (λ z. z + w * get_or (drop m a) i 0) (get_or-take m a i 0 l) ∙ ap (λ z. get_or a i 0 + w * z) (get_or-drop m a i 0)

pub node_halves : (q : ℕ) (zs : List ℕ) (d k : ℕ) (a low high : List ℕ) → IsFolded q (get_or zs k 0) (2 ^ d) a low high →
    node q zs d (2 * k) (entry low) ++ node q zs d (2 * k + 1) (entry high) ≡ node q zs (suc d) k (entry a)
unfolding node
node_halves q zs d k a low high h =
    let w : ℕ = get_or zs k 0 in
    let m : ℕ = 2 ^ d in
    let left = node_same q zs d (2 * k) (entry low) (folded m w (entry a)) (λ i l. h.sums i l ∙ ap (λ z. z % q) (halves w m i a l)) in
    let right = node_same q zs d (2 * k + 1) (entry high) (folded m (q - w) (entry a)) (λ i l. h.differences i l ∙ ap (λ z. z % q) (halves (q - w) m i a l)) in
    cc

-- what a level of the way back leaves, from the two halves low and high that the levels below left
pub record IsJoined (q z m : ℕ) (u v : ℕ → ℕ) (low high left right : List ℕ) : Type 0 where
  pub low_is : (i : ℕ) → i < m → get_or low i 0 % q ≡ u i % q
  pub high_is : (i : ℕ) → i < m → get_or high i 0 % q ≡ v i % q
  pub sums : (i : ℕ) → i < m → get_or left i 0 % q ≡ (get_or low i 0 + get_or high i 0) % q
  pub differences : (i : ℕ) → i < m → get_or right i 0 % q ≡ (z * (get_or low i 0 + (q - 1) * get_or high i 0)) % q

pub undone_halves : (q : ℕ) (zs : List ℕ) (d k : ℕ) (a low high left right : List ℕ) →
    IsJoined q (get_or zs k 0) (2 ^ d) (undone q zs d (2 * k) (take (2 ^ d) a)) (undone q zs d (2 * k + 1) (drop (2 ^ d) a)) low high left right →
    length left ≡ 2 ^ d → (i : ℕ) → i < 2 ^ suc d → get_or (left ++ right) i 0 % q ≡ undone q zs (suc d) k a i % q
unfolding undone
undone_halves q zs d k a low high left right h n i l =
    let m : ℕ = 2 ^ d in
    let double : 2 ^ suc d ≡ m * 2 = pow-suc 2 d in
    let z : ℕ = get_or zs k 0 in
    let u : ℕ → ℕ = undone q zs d (2 * k) (take m a) in
    let v : ℕ → ℕ = undone q zs d (2 * k + 1) (drop m a) in
    elim (cases_lt i m) as (λ _. get_or (left ++ right) i 0 % q ≡ joined q m z u v i % q) [
      | inl low_place ↦
          ap (λ y. y % q) (get_or_append_left left right 0 i (omega (arith, n)))
          ∙ h.sums i low_place
          ∙ add_same q (get_or low i 0) (u i) (get_or high i 0) (v i) (h.low_is i low_place) (h.high_is i low_place)
          ∙ sym (ap (λ y. y % q) (joined_low q m z i u v low_place))
      | inr high_place ↦
          let j : ℕ = i - m in
          let below : j < m = omega (arith, double) in
          let place : m + j ≡ i = omega arith in
          ap (λ y. y % q) (get_or-append_right left right m i 0 n high_place)
          ∙ h.differences j below
          ∙ back_same q z (get_or low j 0) (get_or high j 0) (u j) (v j) (h.low_is j below) (h.high_is j below)
          ∙ sym (ap (λ y. y % q) (joined_high q m z j u v))
          ∙ ap (λ y. joined q m z u v y % q) place
    ]
