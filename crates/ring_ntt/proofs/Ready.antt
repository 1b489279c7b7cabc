-- What tables keep of their root, as the laws ask for it.
use Rattle.std.proofs.Common.{◌%◌, ◌^◌, List, ℕ, sym, ◌∙◌, ap, subst, arith}
use Rattle.ring_spec.specs.Ring.{IsPoly}
use Rattle.ring_ntt.specs.declared.tables.Tables.{Tables}
use Rattle.ring_ntt.proofs.Interpolation.{HasRoot}

pub has_root : (t : Tables) → HasRoot t.modulus t.levels t.root
has_root t = record {
  above_one = omega (arith, t.at_least_three);
  odd = t.odd;
  some_level = t.some_level;
  root = ap (λ z. t.root ^ z % t.modulus) (sym t.whole) ∙ t.is_root;
}

-- their length is 2^levels
pub levelled : (t : Tables) (f : List ℕ) → IsPoly t.modulus t.length f → IsPoly t.modulus (2 ^ t.levels) f
levelled t f p = subst (λ z. IsPoly t.modulus z f) t.whole p
