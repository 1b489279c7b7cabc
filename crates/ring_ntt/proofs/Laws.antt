-- The laws of the transform that contracts cite: products, and the way back.
use Rattle.std.proofs.Common.{◌≡◌, ℕ, ◌+◌, ◌-◌, ◌*◌, ◌%◌, ◌^◌, ◌<◌, List, length, get_or, map, refl, sym, ◌∙◌, ap, arith}
use Rattle.std.proofs.Math.Nat.{mod-mod, mod-eq_of_lt}
use Rattle.std.proofs.lemmas.Nat.{pow-add, mul-mod, mod_below, mul-pow}
use Rattle.std.proofs.lemmas.List.{length-map, get_or-map}
use Rattle.std.proofs.lemmas.List.Elements.{All-from_get_or, All-get_or}
use Rattle.std.proofs.lemmas.List.FromFn.{fill_by_all, get_or-map-range_with_len, length-map-range_with_len}
use Rattle.std.proofs.lemmas.Grind.{same_number_lists}
use Rattle.std.specs.List.{range_with_len}
use Rattle.ring_spec.specs.Ring.{IsPoly, ring_product, residues, residue, wrapped, coefficient}
use Rattle.ring_ntt.specs.Transform.{value, entry, bit_reversed, value_at, transform, product_at, entrywise}
use Rattle.ring_ntt.specs.Nodes.{powers, node, undone}
use Rattle.ring_ntt.proofs.Congruence.{mul_same, pow_same}
use Rattle.ring_ntt.proofs.Reversal.{reversed, length-bit_reversed, powers_at}
use Rattle.ring_ntt.proofs.Tree.{node_same}
use Rattle.ring_ntt.proofs.Values.{pow-pow, one-pow, full_turn, node-transform}
use Rattle.ring_ntt.proofs.Undone.{AreInverse, undone-node, node-undone, scaled_by, times_undone}
use Rattle.ring_ntt.proofs.Residues.{residue_below}
use Rattle.ring_ntt.proofs.Products.{value-product}

pub length-transform : (q psi d : ℕ) (f : List ℕ) → length (transform q psi d f) ≡ 2 ^ d
unfolding transform
length-transform q psi d f = length-map (bit_reversed d) (value_at q (2 ^ d) psi (entry f)) ∙ length-bit_reversed d

pub transform_at : (q psi d i : ℕ) (f : List ℕ) → i < 2 ^ d → entry (transform q psi d f) i ≡ value_at q (2 ^ d) psi (entry f) (reversed d i)
unfolding transform reversed
transform_at q psi d i f l = let n = length-bit_reversed d in get_or-map (value_at q (2 ^ d) psi (entry f)) (bit_reversed d) i 0 0 (omega (arith, n))

pub transform-poly : (q psi d : ℕ) (f : List ℕ) → 0 < q → IsPoly q (2 ^ d) (transform q psi d f)
unfolding value_at
transform-poly q psi d f l = record {
  entries = length-transform q psi d f;
  below = All-from_get_or (λ x. x < q) (transform q psi d f) 0
      (λ i h. let n = length-transform q psi d f in
      rw (transform_at q psi d i f (omega (arith, n))) (mod_below (value (2 ^ d) (entry f) (psi ^ (2 * reversed d i + 1))) q l));
}

pub ring_product-poly : (q n : ℕ) (f g : List ℕ) → 0 < q → IsPoly q n (ring_product q n f g)
unfolding ring_product residues
ring_product-poly q n f g l = record {
  entries = length-map-range_with_len (λ i. residue q (wrapped n (coefficient f) (coefficient g) i)) 0 n;
  below = All-from_get_or (λ x. x < q) (map (λ i. residue q (wrapped n (coefficient f) (coefficient g) i)) (range_with_len 0 n)) 0
      (λ i h. let m = length-map-range_with_len (λ k. residue q (wrapped n (coefficient f) (coefficient g) k)) 0 n in
      rw (get_or-map-range_with_len (λ k. residue q (wrapped n (coefficient f) (coefficient g) k)) 0 n i i 0 (omega (arith, m)) (omega arith))
      (residue_below q (wrapped n (coefficient f) (coefficient g) i) l));
}

-- each odd power of psi has n-th power -1
odd_power : (q n psi r : ℕ) → 1 < q → psi ^ n % q ≡ q - 1 → (psi ^ (2 * r + 1)) ^ n % q ≡ (q - 1) % q
odd_power q n psi r l e =
    let exponent : (2 * r + 1) * n ≡ 2 * n * r + n = omega arith in
    let small : (q - 1) % q ≡ q - 1 = mod-eq_of_lt (omega arith) in
    ap (λ z. z % q) (pow-pow psi (2 * r + 1) n ∙ ap (λ z. psi ^ z) exponent ∙ pow-add psi (2 * n * r) n)
    ∙ mul_same q (psi ^ (2 * n * r)) 1 (psi ^ n) (q - 1)
    (ap (λ z. z % q) (sym (pow-pow psi (2 * n) r)) ∙ pow_same q (psi ^ (2 * n)) 1 r (full_turn q n psi l e) ∙ ap (λ z. z % q) (one-pow r))
    (e ∙ sym small)
    ∙ ap (λ z. z % q) (let h : 1 * (q - 1) ≡ q - 1 = omega arith in h)

-- transforms multiply entry by entry
pub entrywise-transform : (q psi d : ℕ) (f g : List ℕ) → 1 < q → psi ^ (2 ^ d) % q ≡ q - 1 →
    entrywise q (2 ^ d) (transform q psi d f) (transform q psi d g) ≡ transform q psi d (ring_product q (2 ^ d) f g)
unfolding entrywise value_at
entrywise-transform q psi d f g l e =
    let n : ℕ = 2 ^ d in
    let a : List ℕ = transform q psi d f in
    let b : List ℕ = transform q psi d g in
    let p : List ℕ = ring_product q n f g in
    let count : length (map (product_at q a b) (range_with_len 0 n)) ≡ n = length-map-range_with_len (product_at q a b) 0 n in
    same_number_lists (map (product_at q a b) (range_with_len 0 n)) (transform q psi d p) (count ∙ sym (length-transform q psi d p))
    (λ i h.
    let below : i < n = omega (arith, count) in
    let r : ℕ = reversed d i in
    let x : ℕ = psi ^ (2 * r + 1) in
    get_or-map-range_with_len (product_at q a b) 0 n i i 0 below (omega arith)
    ∙ ap (λ z. z * entry b i % q) (transform_at q psi d i f below)
    ∙ ap (λ z. value n (entry f) x % q * z % q) (transform_at q psi d i g below)
    ∙ sym (mul-mod (value n (entry f) x) (value n (entry g) x) q)
    ∙ sym (value-product q n x f g (omega arith) (odd_power q n psi r l e))
    ∙ sym (transform_at q psi d i p below))

-- ---- the way back

pub powers-inverse : (q t psi phi : ℕ) → 1 < q → psi * phi % q ≡ 1 → AreInverse q t (powers q t psi) (powers q t phi)
powers-inverse q t psi phi l e = record {
  below = λ k h. rw (powers_at q t psi k l h) (mod_below (psi ^ reversed t k) q (omega arith));
  inverse = λ k h.
      let r : ℕ = reversed t k in
      let one : 1 % q ≡ 1 = mod-eq_of_lt l in
      let turn : phi * psi ≡ psi * phi = omega arith in
      ap (λ z. z * get_or (powers q t psi) k 0 % q) (powers_at q t phi k l h)
      ∙ ap (λ z. phi ^ r % q * z % q) (powers_at q t psi k l h)
      ∙ sym (mul-mod (phi ^ r) (psi ^ r) q)
      ∙ ap (λ z. z % q) (sym (mul-pow phi psi r) ∙ ap (λ z. z ^ r) turn)
      ∙ pow_same q (psi * phi) 1 r (e ∙ sym one)
      ∙ ap (λ z. z % q) (one-pow r);
}

-- what the way back leaves, each entry scaled by the inverse of 2^t
pub record IsBack (q t psi phi scale : ℕ) (y x : List ℕ) : Type 0 where
  pub poly : IsPoly q (2 ^ t) x
  pub entries : (i : ℕ) → i < 2 ^ t → entry x i % q ≡ (scale * undone q (powers q t phi) t 1 y i) % q

-- what the tables keep of a modulus, a root, its inverse and the scale
pub record IsReady (q t psi phi scale : ℕ) : Type 0 where
  pub above_one : 1 < q
  pub some_level : 0 < t
  pub root : psi ^ (2 ^ t) % q ≡ q - 1
  pub inverse : psi * phi % q ≡ 1
  pub scaled : scale * 2 ^ t % q ≡ 1

pub back-undoes : (q t psi phi scale : ℕ) (y x f : List ℕ) → IsReady q t psi phi scale → IsBack q t psi phi scale y x →
    IsPoly q (2 ^ t) f → y ≡ transform q psi t f → x ≡ f
back-undoes q t psi phi scale y x f r b p e =
    let zs : List ℕ = powers q t psi in
    let is : List ℕ = powers q t phi in
    let lx = b.poly.entries in
    let lf = p.entries in
    let l = r.above_one in
    let tree : y ≡ node q zs t 1 (entry f) = e ∙ sym (node-transform q t psi f l r.root r.some_level) in
    same_number_lists x f (lx ∙ sym lf)
    (λ i h.
    let here : i < 2 ^ t = omega (arith, lx) in
    let hx : entry x i < q = All-get_or (λ v. v < q) x i 0 h b.poly.below in
    let hf : entry f i < q = All-get_or (λ v. v < q) f i 0 (omega (arith, lf)) p.below in
    let one : 1 % q ≡ 1 = mod-eq_of_lt l in
    sym (mod-eq_of_lt hx)
    ∙ b.entries i here
    ∙ ap (λ z. (scale * undone q is t 1 z i) % q) tree
    ∙ mul_same q scale scale (undone q is t 1 (node q zs t 1 (entry f)) i) (2 ^ t * entry f i) refl
    (undone-node q t zs is t 1 (entry f) (omega arith) (powers-inverse q t psi phi l r.inverse) (omega arith) i here)
    ∙ ap (λ z. z % q) (let g : scale * (2 ^ t * entry f i) ≡ scale * 2 ^ t * entry f i = omega arith in g)
    ∙ mul_same q (scale * 2 ^ t) 1 (entry f i) (entry f i) (r.scaled ∙ sym one) refl
    ∙ ap (λ z. z % q) (let g : 1 * entry f i ≡ entry f i = omega arith in g)
    ∙ mod-eq_of_lt hf)

pub back-undone : (q t psi phi scale : ℕ) (y x : List ℕ) → IsReady q t psi phi scale → IsBack q t psi phi scale y x →
    IsPoly q (2 ^ t) y → transform q psi t x ≡ y
unfolding scaled_by times_undone
back-undone q t psi phi scale y x r b p =
    let zs : List ℕ = powers q t psi in
    let is : List ℕ = powers q t phi in
    let l = r.above_one in
    let ly = p.entries in
    let one : 1 % q ≡ 1 = mod-eq_of_lt l in
    sym (node-transform q t psi x l r.root r.some_level)
    ∙ node_same q zs t 1 (entry x) (times_undone q scale is t 1 y) b.entries
    ∙ node-undone q t zs is t 1 scale y (omega arith) (powers-inverse q t psi phi l r.inverse) (omega arith) ly
    ∙ same_number_lists (map (scaled_by q scale t) y) y (length-map y (scaled_by q scale t))
    (λ i h.
    let here : i < length y = omega (arith, length-map y (scaled_by q scale t)) in
    let hy : entry y i < q = All-get_or (λ v. v < q) y i 0 here p.below in
    get_or-map (scaled_by q scale t) y i 0 0 here
    ∙ mul_same q (scale * 2 ^ t) 1 (entry y i) (entry y i) (r.scaled ∙ sym one) refl
    ∙ ap (λ z. z % q) (let g : 1 * entry y i ≡ entry y i = omega arith in g)
    ∙ mod-eq_of_lt hy)

-- ---- as the calls of the tables cite them

pub entrywise-poly : (q n : ℕ) (a b : List ℕ) → 0 < q → IsPoly q n (entrywise q n a b)
unfolding entrywise
entrywise-poly q n a b l = record {
  entries = length-map-range_with_len (product_at q a b) 0 n;
  below = All-from_get_or (λ x. x < q) (map (product_at q a b) (range_with_len 0 n)) 0
      (λ i h. let m = length-map-range_with_len (product_at q a b) 0 n in
      rw (get_or-map-range_with_len (product_at q a b) 0 n i i 0 (omega (arith, m)) (omega arith)) (mod_below (entry a i * entry b i) q l));
}

pub entrywise-is : (q n : ℕ) (a b x : List ℕ) → length x ≡ n → ((k : ℕ) → k < n → get_or x k 0 ≡ get_or a k 0 * get_or b k 0 % q) → x ≡ entrywise q n a b
unfolding entrywise
entrywise-is q n a b x l h = fill_by_all (product_at q a b) x n 0 l h

-- the tree over a table gives the transform by the root that the table is made of
pub forward-values : (q psi t q' t' psi' : ℕ) (f a : List ℕ) → q' ≡ q → t' ≡ t → psi' ≡ psi → 1 < q → psi ^ (2 ^ t) % q ≡ q - 1 → 0 < t →
    a ≡ node q' (powers q' t' psi') t' 1 (entry f) → a ≡ transform q psi t f
forward-values q psi t q' t' psi' f a eq et ep l root some e =
    e
    ∙ ap (λ z. node z (powers z t' psi') t' 1 (entry f)) eq
    ∙ ap (λ z. node q (powers q z psi') z 1 (entry f)) et
    ∙ ap (λ z. node q (powers q t z) t 1 (entry f)) ep
    ∙ node-transform q t psi f l root some

-- what the way back by another table leaves, scaled down
pub is_back : (q t psi phi scale q' t' : ℕ) (y u x : List ℕ) → 0 < q → q' ≡ q → t' ≡ t → length u ≡ 2 ^ t' → length x ≡ length u →
    ((i : ℕ) → i < 2 ^ t' → get_or u i 0 % q' ≡ undone q' (powers q' t' phi) t' 1 y i % q') →
    ((k : ℕ) → k < length u → get_or x k 0 ≡ scale * get_or u k 0 % q) →
    IsBack q t psi phi scale y x
is_back q t psi phi scale q' t' y u x some eq et nu nx same scaled =
    let width : 2 ^ t' ≡ 2 ^ t = ap (λ z. 2 ^ z) et in
    record {
      poly = record {
        entries = nx ∙ nu ∙ width;
        below = All-from_get_or (λ v. v < q) x 0 (λ i h. rw (scaled i (omega (arith, nx))) (mod_below (scale * get_or u i 0) q some));
      };
      entries = λ i h.
          ap (λ z. z % q) (scaled i (omega (arith, nu, width)))
          ∙ mod-mod (scale * get_or u i 0) q
          ∙ mul_same q scale scale (get_or u i 0) (undone q (powers q t phi) t 1 y i) refl
          (ap (λ z. get_or u i 0 % z) (sym eq)
          ∙ same i (omega (arith, width))
          ∙ ap (λ z. undone z (powers z t' phi) t' 1 y i % z) eq
          ∙ ap (λ z. undone q (powers q z phi) z 1 y i % q) et);
    }
