-- The product in the wide ring is narrowed to that of the plaintexts.
use Rattle.std.proofs.Common.{◌≡◌, get_or, ◌∙◌, ap, arith}
use Rattle.std.proofs.lemmas.Grind.{common_steps}
use Rattle.ring_spec.specs.Ring.{residue, centre, ring_product}
use Rattle.circuit_form.specs.Products.{wide_modulus}
use Rattle.circuit_form.proofs.Narrowing.{narrowed_product, product_fits}
use Rattle.circuit_form.proofs.products.product.Goals as goal

pub narrow-requires-clause-residues : goal.narrow-requires-clause-residues
narrow-requires-clause-residues c = λ k h.
    let n = c.args.params.now.n in
    let f = c.args.f.now in
    let g = c.args.g.now in
    let w = c.as_mut_slice.result.now in
    let e : w ≡ ring_product wide_modulus n f g =
    c.as_mut_slice.ensures.value ∙ c.in_ok-coeffs.ensures
    ∙ ap (λ m. ring_product wide_modulus m c.coeffs.result.now c.coeffs-2.result.now) c.requires.wide
    ∙ ap (λ x. ring_product wide_modulus n x c.coeffs-2.result.now) c.coeffs.ensures
    ∙ ap (ring_product wide_modulus n f) c.coeffs-2.ensures in
    (product_fits wide_modulus n f g w e (omega arith)).below k 0 h

pub returns-clause-value : goal.returns-clause-value
returns-clause-value c =
    let t = c.args.params.now.t in
    let n = c.args.params.now.n in
    let f = c.args.f.now in
    let g = c.args.g.now in
    let w = c.as_mut_slice.result.now in
    let h = c.narrow.new.coeffs in
    let e : w ≡ ring_product wide_modulus n f g =
    c.as_mut_slice.ensures.value ∙ c.in_ok-coeffs.ensures
    ∙ ap (λ m. ring_product wide_modulus m c.coeffs.result.now c.coeffs-2.result.now) c.requires.wide
    ∙ ap (λ x. ring_product wide_modulus n x c.coeffs-2.result.now) c.coeffs.ensures
    ∙ ap (ring_product wide_modulus n f) c.coeffs-2.ensures in
    let same : c.from_vec.result ≡ h = grind (arith, common_steps) in
    same
    ∙ narrowed_product t n f g w h (omega arith) (omega arith) c.requires.left c.requires.right e c.narrow.ensures.length
    (λ k l. c.narrow.ensures.narrowed k l ∙ ap (λ v. residue v (centre wide_modulus (get_or w k 0))) c.t.ensures)

pub returns-clause-fits : goal.returns-clause-fits
returns-clause-fits c =
    product_fits c.args.params.now.t c.args.params.now.n c.args.f.now c.args.g.now c.from_vec.result
    (returns-clause-value c) (omega arith)
