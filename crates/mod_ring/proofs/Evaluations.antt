-- What values stand for in the ring of some parameters.
use Rattle.std.proofs.Common.{◌≡◌, ℕ, ◌+◌, ◌*◌, ◌%◌, ◌^◌, ◌<◌, ◌/◌, List, All, length, replicate, refl, sym, ◌∙◌, ap, subst, inl, inr, arith}
use Rattle.std.proofs.Math.Pow.{pow-lt}
use Rattle.std.proofs.lemmas.Bool.{cases_lt}
use Rattle.ring_spec.specs.Ring.{IsPoly, ring_sum, ring_product}
use Rattle.param_set.specs.declared.params.Params.{Params}
use Rattle.ring_ntt.specs.Transform.{inverse_transform}
use Rattle.ring_ntt.proofs.Interpolation.{HasRoot, inverse_transform-poly}
use Rattle.mod_ring.specs.Evaluated.{Evaluated, evaluated, EvaluatedFits}
use Rattle.mod_ring.specs.WideSums.{remainders, raised_sums}
use Rattle.mod_ring.proofs.Fits.{sum-fits, product-fits}
use Rattle.mod_ring.proofs.WideSums.{raised_stands, remainders_poly, zeros_stand}

-- a power of two tells its exponent
same_levels : (a b n : ℕ) → 2 ^ a ≡ n → 2 ^ b ≡ n → a ≡ b
same_levels a b n e e' = elim (cases_lt a b) [
  | inl l ↦ absurd (let f = pow-lt l in omega (arith, f, e, e'))
  | inr l ↦ elim (cases_lt b a) [
    | inl l' ↦ absurd (let f = pow-lt l' in omega (arith, f, e, e'))
    | inr l' ↦ omega arith
  ]
]

-- the modulus, the root and the levels of values are those of the ring
pub record IsOf (p : Params) (m r d : ℕ) : Type 0 where
  pub modulus : m ≡ p.q
  pub degree : 2 ^ d ≡ p.n
  pub root : r ≡ p.psi

-- the root of the parameters is one of transforms of their degree
has_root : (p : Params) (d : ℕ) → 2 ^ d ≡ p.n → HasRoot p.q d p.psi
has_root p d e = record {
  above_one = omega (arith, p.modulus.0);
  odd = let whole : p.q ≡ 2 * (p.n * (p.q / (2 * p.n))) + 1 = omega (arith, p.modulus.2) in omega (arith, whole);
  some_level = elim (cases_lt 0 d) [
    | inl l ↦ l
    | inr l ↦ absurd (let z : d ≡ 0 = omega arith in let one : 2 ^ 0 ≡ p.n = ap (λ (x : ℕ). 2 ^ x) (sym z) ∙ e in omega (arith, one, p.degree.0))
  ];
  root = ap (λ (n : ℕ). p.psi ^ n % p.q) e ∙ p.root.1;
}

-- two ways to name the same values
same_poly : (p : Params) (m r d m' r' d' : ℕ) (v v' : List ℕ) → IsOf p m r d → IsOf p m' r' d' → v ≡ v' → inverse_transform m r d v ≡ inverse_transform m' r' d' v'
same_poly p m r d m' r' d' v v' i i' e =
    ap (λ (x : ℕ). inverse_transform x r d v) (i.modulus ∙ sym i'.modulus)
    ∙ ap (λ (x : ℕ). inverse_transform m' x d v) (i.root ∙ sym i'.root)
    ∙ ap (λ (x : ℕ). inverse_transform m' r' x v) (same_levels d d' p.n i.degree i'.degree)
    ∙ ap (inverse_transform m' r' d') e

pub is_of : (p : Params) (m r d : ℕ) (v : List ℕ) (f : Evaluated) → evaluated m r d v ≡ f → EvaluatedFits p f → IsOf p m r d
is_of p m r d v f e h = record {
  modulus = ap (λ (x : Evaluated). x.modulus) e ∙ h.modulus;
  degree = ap (λ (x : Evaluated). x.degree) e ∙ h.degree;
  root = ap (λ (x : Evaluated). x.root) e ∙ h.root;
}

-- the way back gives the polynomial that values stand for
pub taken_back : (p : Params) (m r d m' r' d' : ℕ) (v v' now : List ℕ) (f : Evaluated) → evaluated m r d v ≡ f → EvaluatedFits p f → IsOf p m' r' d' → v' ≡ v → now ≡ inverse_transform m' r' d' v' → now ≡ f.poly
taken_back p m r d m' r' d' v v' now f e h i same is =
    is ∙ same_poly p m' r' d' m r d v' v i (is_of p m r d v f e h) same ∙ ap (λ (x : Evaluated). x.poly) e

-- values whose polynomial is known
pub fits_as : (p : Params) (m r d : ℕ) (v g : List ℕ) → IsOf p m r d → inverse_transform m r d v ≡ g → IsPoly p.q p.n g → EvaluatedFits p (evaluated m r d v)
fits_as p m r d v g i e h = record {
  modulus = i.modulus;
  degree = i.degree;
  root = i.root;
  poly = subst (IsPoly p.q p.n) (sym e) h;
}

-- the sum of no products
pub none_stands : (p : Params) (m r d : ℕ) (sums : List ℕ) → IsOf p m r d → sums ≡ replicate p.n 0 → inverse_transform m r d (remainders m sums) ≡ replicate p.n 0
none_stands p m r d sums i e = ap (λ (x : List ℕ). inverse_transform m r d (remainders m x)) e ∙ zeros_stand m d r p.n i.degree

pub none_fits : (p : Params) (m r d : ℕ) (sums : List ℕ) → IsOf p m r d → sums ≡ replicate p.n 0 → EvaluatedFits p (evaluated m r d (remainders m sums))
none_fits p m r d sums i e =
    fits_as p m r d (remainders m sums) (inverse_transform p.q r d (remainders m sums)) i (ap (λ (x : ℕ). inverse_transform x r d (remainders m sums)) i.modulus)
    (subst (λ (x : ℕ). IsPoly p.q x (inverse_transform p.q r d (remainders m sums))) i.degree (inverse_transform-poly p.q d r (remainders m sums) (omega (arith, p.modulus.0))))

-- the remainders of a sum are values of the ring
pub remainders_are_values : (p : Params) (m r d m' n' : ℕ) (sums v : List ℕ) (f : Evaluated) → evaluated m r d (remainders m sums) ≡ f → EvaluatedFits p f → length sums ≡ 2 ^ d → m' ≡ p.q → n' ≡ p.n → v ≡ remainders m sums → IsPoly m' n' v
remainders_are_values p m r d m' n' sums v f e h len em en is =
    let i = is_of p m r d (remainders m sums) f e h in
    let same : v ≡ remainders m' sums = is ∙ ap (λ (x : ℕ). remainders x sums) (i.modulus ∙ sym em) in
    subst (IsPoly m' n') (sym same) (remainders_poly m' n' sums (omega (arith, em, p.modulus.0)) (len ∙ i.degree ∙ sym en))

-- the product of two that fit; the values are those that a call of the tables gives
pub product_stands : (p : Params) (m r d m₂ r₂ d₂ m' r' d' n' : ℕ) (now v v₁ v₂ a b : List ℕ) (f g : Evaluated) →
    evaluated m r d v₁ ≡ f → EvaluatedFits p f → evaluated m₂ r₂ d₂ v₂ ≡ g → EvaluatedFits p g → IsOf p m' r' d' → n' ≡ p.n → a ≡ v₁ → b ≡ v₂ → now ≡ v →
    inverse_transform m' r' d' v ≡ ring_product m' n' (inverse_transform m' r' d' a) (inverse_transform m' r' d' b) →
    inverse_transform m r d now ≡ ring_product p.q p.n f.poly g.poly
product_stands p m r d m₂ r₂ d₂ m' r' d' n' now v v₁ v₂ a b f g ef hf eg hg i' len ea eb en is =
    same_poly p m r d m' r' d' now v (is_of p m r d v₁ f ef hf) i' en ∙ is
    ∙ ap (λ (x : ℕ). ring_product x n' (inverse_transform m' r' d' a) (inverse_transform m' r' d' b)) i'.modulus
    ∙ ap (λ (x : ℕ). ring_product p.q x (inverse_transform m' r' d' a) (inverse_transform m' r' d' b)) len
    ∙ ap (λ (x : List ℕ). ring_product p.q p.n x (inverse_transform m' r' d' b)) (same_poly p m' r' d' m r d a v₁ i' (is_of p m r d v₁ f ef hf) ea ∙ ap (λ (x : Evaluated). x.poly) ef)
    ∙ ap (λ (x : List ℕ). ring_product p.q p.n f.poly x) (same_poly p m' r' d' m₂ r₂ d₂ b v₂ i' (is_of p m₂ r₂ d₂ v₂ g eg hg) eb ∙ ap (λ (x : Evaluated). x.poly) eg)

pub product_fits : (p : Params) (m r d : ℕ) (v now : List ℕ) (f g : Evaluated) → evaluated m r d v ≡ f → EvaluatedFits p f → inverse_transform m r d now ≡ ring_product p.q p.n f.poly g.poly → EvaluatedFits p (evaluated m r d now)
product_fits p m r d v now f g e h is =
    fits_as p m r d now (ring_product p.q p.n f.poly g.poly) (is_of p m r d v f e h) is (product-fits p.q p.n f.poly g.poly _ refl (omega (arith, p.modulus.0)))

-- a sum to which the product of two that fit is added
pub sum_stands : (p : Params) (m r d m₁ r₁ d₁ m₂ r₂ d₂ : ℕ) (now sums v₁ v₂ : List ℕ) (s f g : Evaluated) →
    evaluated m r d (remainders m sums) ≡ s → EvaluatedFits p s → evaluated m₁ r₁ d₁ v₁ ≡ f → EvaluatedFits p f → evaluated m₂ r₂ d₂ v₂ ≡ g → EvaluatedFits p g →
    length sums ≡ 2 ^ d → IsPoly m₁ (2 ^ d₁) v₁ → IsPoly m₂ (2 ^ d₂) v₂ → now ≡ raised_sums sums v₁ v₂ →
    inverse_transform m r d (remainders m now) ≡ ring_sum p.q p.n s.poly (ring_product p.q p.n f.poly g.poly)
sum_stands p m r d m₁ r₁ d₁ m₂ r₂ d₂ now sums v₁ v₂ s f g es hs ef hf eg hg len p₁ p₂ is =
    let i = is_of p m r d (remainders m sums) s es hs in
    let i₁ = is_of p m₁ r₁ d₁ v₁ f ef hf in
    let i₂ = is_of p m₂ r₂ d₂ v₂ g eg hg in
    let own : IsOf p p.q p.psi d = record { modulus = refl; degree = i.degree; root = refl } in
    let back : List ℕ → List ℕ = inverse_transform p.q p.psi d in
    same_poly p m r d p.q p.psi d (remainders m now) (remainders p.q (raised_sums sums v₁ v₂)) i own (ap (λ (x : ℕ). remainders x now) i.modulus ∙ ap (remainders p.q) is)
    ∙ raised_stands p.q d p.psi sums v₁ v₂ (has_root p d i.degree) len (own_poly p d m₁ d₁ v₁ i.degree i₁.modulus i₁.degree p₁) (own_poly p d m₂ d₂ v₂ i.degree i₂.modulus i₂.degree p₂)
    ∙ ap (λ (x : ℕ). ring_sum p.q x (back (remainders p.q sums)) (ring_product p.q x (back v₁) (back v₂))) i.degree
    ∙ ap (λ (x : List ℕ). ring_sum p.q p.n x (ring_product p.q p.n (back v₁) (back v₂)))
    (same_poly p p.q p.psi d m r d (remainders p.q sums) (remainders m sums) own i (ap (λ (x : ℕ). remainders x sums) (sym i.modulus)) ∙ ap (λ (x : Evaluated). x.poly) es)
    ∙ ap (λ (x : List ℕ). ring_sum p.q p.n s.poly (ring_product p.q p.n x (back v₂))) (same_poly p p.q p.psi d m₁ r₁ d₁ v₁ v₁ own i₁ refl ∙ ap (λ (x : Evaluated). x.poly) ef)
    ∙ ap (λ (x : List ℕ). ring_sum p.q p.n s.poly (ring_product p.q p.n f.poly x)) (same_poly p p.q p.psi d m₂ r₂ d₂ v₂ v₂ own i₂ refl ∙ ap (λ (x : Evaluated). x.poly) eg)
  where
    own_poly : (p : Params) (d m d' : ℕ) (v : List ℕ) → 2 ^ d ≡ p.n → m ≡ p.q → 2 ^ d' ≡ p.n → IsPoly m (2 ^ d') v → IsPoly p.q (2 ^ d) v
    own_poly p d m d' v e e' e'' h = record {
      entries = h.entries ∙ e'' ∙ sym e;
      below = subst (λ (x : ℕ). All (λ y. y < x) v) e' h.below;
    }

pub sum_fits : (p : Params) (m r d : ℕ) (v now h : List ℕ) (s : Evaluated) → evaluated m r d v ≡ s → EvaluatedFits p s → inverse_transform m r d now ≡ ring_sum p.q p.n s.poly h → EvaluatedFits p (evaluated m r d now)
sum_fits p m r d v now h s e hs is =
    fits_as p m r d now (ring_sum p.q p.n s.poly h) (is_of p m r d v s e hs) is (sum-fits p.q p.n s.poly h _ refl (omega (arith, p.modulus.0)))
