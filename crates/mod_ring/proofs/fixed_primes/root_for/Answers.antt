-- Each squaring halves the power that is -1.
use Rattle.std.proofs.Common.{◌≡◌, ℕ, ◌+◌, ◌-◌, ◌*◌, ◌%◌, ◌^◌, suc, ◌∙◌, sym, ap, arith}
use Rattle.std.proofs.Math.Nat.{pow-suc}
use Rattle.ring_ntt.proofs.Reversal.{square-power}
use Rattle.mod_ring.proofs.fixed_primes.root_for.Goals as goal

pub squarings-init : goal.squarings-init
squarings-init c = record {
  residue = c.requires.residue;
  root = ap (λ (x : ℕ). c.args.psi ^ (2 ^ x) % c.args.q) (let e : 12 + c.args.levels - c.args.levels ≡ 12 = omega arith in e) ∙ c.requires.root;
}

pub squarings-preserved : goal.squarings-preserved
squarings-preserved c =
    let q = c.args.q in
    let root = c.squarings.root in
    let left = 12 + c.args.levels - (c.squarings.k + 1) in
    let h = 2 ^ left in
    let one : 12 + c.args.levels - c.squarings.k ≡ suc left = omega (arith, c.squarings-test.true) in
    let twice : 2 * h ≡ 2 ^ (12 + c.args.levels - c.squarings.k) = (let d : 2 * h ≡ h * 2 = omega arith in d) ∙ sym (pow-suc 2 left) ∙ ap (λ (x : ℕ). 2 ^ x) (sym one) in
    record {
      residue = omega (arith, c.square-root.ensures);
      root = ap (λ (x : ℕ). x ^ h % q) c.square-root.ensures ∙ square-power q root h ∙ ap (λ (x : ℕ). root ^ x % q) twice ∙ c.squarings.invariant.root;
    }
