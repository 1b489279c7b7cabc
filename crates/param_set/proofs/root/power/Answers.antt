use Rattle.std.proofs.Common.{◌≡◌, ◌*◌, ◌/◌, ◌%◌, ◌^◌, sym, ◌∙◌, ap, arith}
use Rattle.std.proofs.Math.Nat.{mod-eq_of_lt, pow-zero}
use Rattle.std.proofs.lemmas.Nat.{pow-mod, mod_below}
use Rattle.param_set.proofs.Squarings.{even_step, odd_step}
use Rattle.param_set.proofs.root.power.Goals as goal
use Rattle.param_set.proofs.root.power.Goals.{then-rest-eq1, else-rest-eq1}

pub squarings-init : goal.squarings-init
squarings-init c = record {
  reduced = c.requires;
  same = ap (λ z. z % c.args.q) (let g : 1 * (c.args.base % c.args.q) ^ c.args.exponent ≡ (c.args.base % c.args.q) ^ c.args.exponent = omega arith in g)
      ∙ pow-mod c.args.base c.args.exponent c.args.q;
}

pub squarings-preserved : goal.squarings-preserved
squarings-preserved c =
    let q = c.args.q in
    let m = c.squarings.made in
    let s = c.squarings.square in
    let r = c.squarings.rest in
    elim c.if-rest-eq1.branch [
      | then-rest-eq1 w ↦ record {
        reduced = rw (w.made-is, w.product-made.ensures) (mod_below (m * s) q (omega arith));
        same = rw (w.made-is, w.product-made.ensures, c.product-square.ensures)
            (odd_step q m s r (r / 2) (omega (arith, w.if-rest-eq1.true)) ∙ c.squarings.invariant.same);
      }
      | else-rest-eq1 w ↦ record {
        reduced = rw w.made-is c.squarings.invariant.reduced;
        same = rw (w.made-is, c.product-square.ensures)
            (even_step q m s r (r / 2) (omega (arith, w.if-rest-eq1.false)) ∙ c.squarings.invariant.same);
      }
    ]

pub returns : goal.returns
returns c =
    let q = c.args.q in
    let m = c.squarings.made in
    let s = c.squarings.square in
    let e : c.squarings.rest ≡ 0 = omega arith in
    let last : m * s ^ c.squarings.rest ≡ m = ap (λ z. m * s ^ z) e ∙ ap (λ z. m * z) (pow-zero s) ∙ omega arith in
    sym (mod-eq_of_lt c.squarings.invariant.reduced) ∙ ap (λ z. z % q) (sym last) ∙ c.squarings.invariant.same
