-- A residue below half the modulus stands for itself, and another one for a number below 0.
use Rattle.std.proofs.Common.{◌-◌, ◌<◌, refl, ◌∙◌, ap, arith}
use Rattle.std.specs.Prelude.{pos, neg_ℤ}
use Rattle.ring_spec.specs.Ring.{residue}
use Rattle.circuit_form.proofs.Narrowing.{narrow_low, narrow_high}
use Rattle.circuit_form.proofs.products.narrowed.Goals as goal

pub returns-then-x-lt-MODULUS : goal.returns-then-x-lt-MODULUS
returns-then-x-lt-MODULUS c =
    narrow_low c.args.t.now.q c.args.x c.word.result (omega arith) c.word.ensures

pub returns-else-x-lt-MODULUS : goal.returns-else-x-lt-MODULUS
returns-else-x-lt-MODULUS c =
    let q = c.q.ensures in
    let some : 0 < c.args.t.now.q = c.args.t.now.positive in
    narrow_high c.args.t.now.q c.args.x (4611686018427322369 - c.args.x) c.word-else-x-lt-MODULUS.result c.opposite.result some c.if-x-lt-MODULUS.false c.requires refl c.word-else-x-lt-MODULUS.ensures
    (c.opposite.ensures ∙ ap (λ t. residue t (neg_ℤ (pos c.word-else-x-lt-MODULUS.result))) q)
