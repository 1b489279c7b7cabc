-- Rotations and full products by the keys for the circuit.
use Rattle.std.proofs.Common.{◌≡◌, ℕ, ◌≤◌, ◌<◌, ◌%◌, true, not, ◌&&◌, List, refl, arith}
use Rattle.std.specs.Prelude.{Some}
use Rattle.std.specs.List.{slice_get}
use Rattle.std.proofs.lemmas.Bool.{eq-eqb, not-true}
use Rattle.ring_spec.specs.Ring.{IsPoly, ring_product, ring_turned}
use Rattle.ring_spec.specs.Pairs.{Cipher}
use Rattle.bfv_laws.proofs.Decryptions.{limit_is, parameters_fit}
use Rattle.ring_laws.proofs.Residues.{product_poly}
use Rattle.ring_laws.proofs.Turns.{turned_poly}
use Rattle.gadget_spec.specs.Digits.{Serves, widest}
use Rattle.gadget_spec.specs.Switching.{rotation}
use Rattle.gadget_laws.proofs.Rotations.{rotations_carry}
use Rattle.gadget_laws.proofs.SwitchTotals.{rotations_fit}
use Rattle.tensor_spec.specs.Tensors.{tensor}
use Rattle.tensor_laws.specs.Products.{IsFactor}
use Rattle.tensor_laws.proofs.Products.{products_carry}
use Rattle.tensor_laws.proofs.Relinearising.{relinearisations_fit}
use Rattle.param_set.specs.declared.params.Params.{Params}
use Rattle.param_set.specs.Moduli.{binary_digits, digit_rows}
use Rattle.param_set.specs.Numbers.{numbers_of}
use Rattle.param_set.proofs.Digits.{digits_around, rows_hold}
use Rattle.ring_ntt.proofs.PowersOfTwo.{levels_within}
use Rattle.circuit_form.specs.declared.node.Node.{Node}
use Rattle.circuit_form.specs.declared.node.Node.TheVariants.{Mul, Rot}
use Rattle.circuit_form.specs.Circuits.{is_const, is_full, is_turn}
use Rattle.circuit_form.specs.Values.{entry}
use Rattle.noise_ledger.specs.Bounds.{numbers_for, limit, switched, crossed, rounding, rotation_noise, relin_noise, rot_bound, mul_bound}
use Rattle.noise_ledger.specs.Ledger.{bound_at, product_bound}
use Rattle.cipher_spec.specs.Keys.{Keys, gadget_of, rotation_rows}
use Rattle.cipher_spec.specs.Ciphers.{cipher_at, product_cipher}
use Rattle.circuit_laws.specs.Switches.{AreKeysFor}
use Rattle.circuit_laws.proofs.Places.{Holds, Each, AllWithin, both_pass, passes_some}

-- the gadget of checked parameters has rows enough
pub gadget_serves : (p : Params) → Serves p.q (gadget_of (numbers_of p))
gadget_serves p =
    let digits = binary_digits p.q in
    let around = digits_around p.q digits (omega (arith, p.modulus.0)) (omega (arith, p.modulus.1)) refl in
    let rows = rows_hold p.q digits p.digit_bits (digit_rows p.q p.digit_bits) around.0 p.noise.0 refl in
    record { bits = omega (arith, p.noise.0); rows = omega (arith, rows) }

-- ---- rotations

pub rotation_holds : (p : Params) (threshold : ℕ) (keys : Keys) (s : List ℕ) (nodes : List Node) (k g of : ℕ) (bounds : List ℕ) (ciphers : List Cipher) (plains : List (List ℕ)) →
    0 < p.q → 0 < p.t → AreKeysFor p threshold s nodes keys → Each p s nodes k bounds ciphers plains → of < k → g % 2 ≡ 1 → slice_get nodes k ≡ Some (Rot g of) →
    Holds p s nodes k (rot_bound (numbers_for p threshold) (bound_at bounds of)) (rotation p.q p.n (gadget_of (numbers_of p)) (rotation_rows keys.rotations g) g (cipher_at ciphers of))
    (ring_turned p.t p.n g (entry plains of))
unfolding rot_bound switched widest
rotation_holds p threshold keys s nodes k g of bounds ciphers plains h ht owned each l odd at =
    let one = each of l in
    let gadget = gadget_of (numbers_of p) in
    let rows = rotation_rows keys.rotations g in
    let c = cipher_at ciphers of in let m = entry plains of in
    let degree = levels_within p.n (omega (arith, p.degree.0)) p.degree.1 p.degree.2 in
    let turns = passes_some (is_turn g) nodes k (Rot g of) at (eq-eqb g g refl) in
    record {
      carries =
          rotations_carry p.q p.n degree.0 p.t g (bound_at bounds of) (rotation_noise (numbers_for p threshold)) gadget s rows c m h ht degree.3 odd (gadget_serves p) one.plain one.carries
          (owned.rotations g turns);
      plain = turned_poly p.t p.n g m ht;
      fits = rotations_fit p.q p.n g gadget rows c h;
      named = λ value e. cc;
    }

-- ---- full products

-- what is within the limit may be a factor
factor : (p : Params) (threshold : ℕ) (s : List ℕ) (nodes : List Node) (k v : ℕ) (c : Cipher) (m : List ℕ) → Holds p s nodes k v c m → v ≤ limit (numbers_for p threshold) → IsFactor p.q p.n p.t s v c m
factor p threshold s nodes k v c m holds few = record {
  fits = holds.fits;
  plain = holds.plain;
  carries = holds.carries;
  small = limit_is p.q p.t v (omega (arith, p.plain_modulus.0)) (parameters_fit p.q p.t (omega (arith, p.plain_modulus.0)) (omega (arith, p.plain_modulus.1)) (omega (arith, p.modulus.0))) few;
}

pub full_holds : (p : Params) (threshold : ℕ) (keys : Keys) (s : List ℕ) (nodes : List Node) (k left right : ℕ) (bounds : List ℕ) (ciphers : List Cipher) (plains : List (List ℕ)) →
    0 < p.q → 0 < p.t → AreKeysFor p threshold s nodes keys → IsPoly p.q p.n s → Each p s nodes k bounds ciphers plains → AllWithin p threshold nodes k bounds → left < k → right < k →
    (not (is_const (slice_get nodes left)) && not (is_const (slice_get nodes right))) ≡ true → slice_get nodes k ≡ Some (Mul left right) →
    Holds p s nodes k (product_bound (numbers_for p threshold) nodes bounds left right) (product_cipher (numbers_of p) keys nodes ciphers left right)
    (ring_product p.t p.n (entry plains left) (entry plains right))
unfolding product_bound product_cipher mul_bound crossed rounding switched widest
full_holds p threshold keys s nodes k left right bounds ciphers plains h ht owned secret each within l r full at =
    let gadget = gadget_of (numbers_of p) in
    let a = entry plains left in let b = entry plains right in
    let v = bound_at bounds left in let w = bound_at bounds right in
    let c = cipher_at ciphers left in let d = cipher_at ciphers right in
    let some = passes_some (is_full nodes) nodes k (Mul left right) at full in
    let both = both_pass (not (is_const (slice_get nodes left))) (not (is_const (slice_get nodes right))) full in
    let one = factor p threshold s nodes left v c a (each left l) (within some left l) in
    let two = factor p threshold s nodes right w d b (each right r) (within some right r) in
    rw (not-true (is_const (slice_get nodes left)) both.0, not-true (is_const (slice_get nodes right)) both.1) record {
      carries =
          products_carry p.q p.n p.t p.parties v w (relin_noise (numbers_for p threshold)) gadget s keys.relin c d a b h ht secret (owned.secret some) one two (gadget_serves p) (owned.relin some);
      plain = product_poly p.t p.n a b ht;
      fits = relinearisations_fit p.q p.n gadget keys.relin (tensor p.q p.n p.t c d) h;
      named = λ value e. cc;
    }
