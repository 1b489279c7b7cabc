-- The root's power at the degree so far is -1, and n is reached from there by halvings.
use Rattle.std.proofs.Common.{◌≡◌, ℕ, ◌-◌, ◌*◌, ◌%◌, ◌^◌, ◌<◌}
use Rattle.circuit_form.specs.Products.{wide_modulus}
use Rattle.circuit_form.proofs.wide_ring.root_for.Given as goal

abbrev pub invariant-squarings : goal.invariant-squarings
invariant-squarings l = record {
  residue : l.root < wide_modulus;
  power : l.root ^ l.degree % wide_modulus ≡ wide_modulus - 1;
  whole : (j : ℕ) × (l.degree ≡ l.n * 2 ^ j);
}

abbrev pub decreases-squarings : goal.decreases-squarings
decreases-squarings l = l.degree
