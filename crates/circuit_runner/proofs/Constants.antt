-- The constants of a circuit are plaintexts of the ring.
use Rattle.std.proofs.Common.{◌≡◌, ℕ, true, List, length, Option, Some, None, true≢false, refl, sym, nat_eq, nat_lt, ltb-true}
use Rattle.std.specs.List.{slice_get, list_all}
use Rattle.std.proofs.lemmas.Bool.{and_parts, eqb-true}
use Rattle.std.proofs.lemmas.List.Sums.{AllPass-from_list_all}
use Rattle.ring_spec.specs.Ring.{IsPoly}
use Rattle.circuit_form.specs.declared.node.Node.{Node}
use Rattle.circuit_form.specs.declared.node.Node.TheVariants.{Input, Const, Add, Sub, Neg, Mul, Rot}
use Rattle.circuit_form.specs.Circuits.{may_stand, first_fault, fits, is_const}
use Rattle.circuit_form.proofs.Standing.{each_stands}
use Rattle.cipher_spec.specs.Ciphers.{const_of, const_at}

-- a constant that may stand is a plaintext
pub fits_poly : (n t : ℕ) (value : List ℕ) → fits n t value ≡ true → IsPoly t n value
fits_poly n t value e =
    let parts = and_parts (nat_eq (length value) n) (list_all (λ x. nat_lt x t) value) e in
    record {
      entries = eqb-true (length value) n parts.0;
      below = λ k d inside. ltb-true _ t (AllPass-from_list_all (λ x. nat_lt x t) value parts.1 k d inside);
    }

const_fits_at : (n t parties k : ℕ) (nodes : List Node) (o : Option Node) → slice_get nodes k ≡ o → first_fault n t parties nodes ≡ None → is_const o ≡ true → IsPoly t n (const_of o)
unfolding may_stand
const_fits_at n t parties k nodes None at e is = absurd (true≢false (sym is))
const_fits_at n t parties k nodes (Some (Input owner)) at e is = absurd (true≢false (sym is))
const_fits_at n t parties k nodes (Some (Const value)) at e is = fits_poly n t value (each_stands n t parties k nodes (Const value) e at)
const_fits_at n t parties k nodes (Some (Add left right)) at e is = absurd (true≢false (sym is))
const_fits_at n t parties k nodes (Some (Sub left right)) at e is = absurd (true≢false (sym is))
const_fits_at n t parties k nodes (Some (Neg of)) at e is = absurd (true≢false (sym is))
const_fits_at n t parties k nodes (Some (Mul left right)) at e is = absurd (true≢false (sym is))
const_fits_at n t parties k nodes (Some (Rot g of)) at e is = absurd (true≢false (sym is))

-- the constant at a place of a circuit is a plaintext
pub const_fits : (n t parties k : ℕ) (nodes : List Node) → first_fault n t parties nodes ≡ None → is_const (slice_get nodes k) ≡ true → IsPoly t n (const_at nodes k)
const_fits n t parties k nodes e is = const_fits_at n t parties k nodes (slice_get nodes k) refl e is
