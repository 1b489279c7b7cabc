-- Both lists of residues are those of the product, and so the joined entries are the product.
use Rattle.std.proofs.Common.{◌∙◌, length, refl, sym, arith}
use Rattle.int_tensor.specs.Moduli.{first_modulus, second_modulus}
use Rattle.int_tensor.proofs.Exact.{few_coefficients, modulo_is, modulo_poly, joined_product}
use Rattle.int_tensor.proofs.products.int_mul_by.Goals as goal

pub join_all-requires-clause-lengths : goal.join_all-requires-clause-lengths
join_all-requires-clause-lengths c =
    let f = c.args.f.now in let g = c.args.g.now in let n = length f in
    let a = c.as_slice.result.now in let b = c.as_slice-2.result.now in
    let first = modulo_is _ _ first_modulus n f g a _ c.requires.first.0 c.requires.first.1 c.as_slice.ensures.value c.in_ok-residues.ensures in
    let second = modulo_is _ _ second_modulus n f g b _ c.requires.second.0 c.requires.second.1 c.as_slice-2.ensures.value c.in_ok-others.ensures in
    (modulo_poly first_modulus n f g a (omega arith) first).entries ∙ sym (modulo_poly second_modulus n f g b (omega arith) second).entries

pub join_all-requires-clause-first : goal.join_all-requires-clause-first
join_all-requires-clause-first c =
    let f = c.args.f.now in let g = c.args.g.now in let n = length f in
    let a = c.as_slice.result.now in
    let first = modulo_is _ _ first_modulus n f g a _ c.requires.first.0 c.requires.first.1 c.as_slice.ensures.value c.in_ok-residues.ensures in
    (modulo_poly first_modulus n f g a (omega arith) first).below

pub join_all-requires-clause-second : goal.join_all-requires-clause-second
join_all-requires-clause-second c =
    let f = c.args.f.now in let g = c.args.g.now in let n = length f in
    let b = c.as_slice-2.result.now in
    let second = modulo_is _ _ second_modulus n f g b _ c.requires.second.0 c.requires.second.1 c.as_slice-2.ensures.value c.in_ok-others.ensures in
    (modulo_poly second_modulus n f g b (omega arith) second).below

pub returns : goal.returns
returns c =
    let f = c.args.f.now in let g = c.args.g.now in let n = length f in
    let a = c.as_slice.result.now in let b = c.as_slice-2.result.now in
    let t = c.args.first.now in
    let first = modulo_is _ _ first_modulus n f g a _ c.requires.first.0 c.requires.first.1 c.as_slice.ensures.value c.in_ok-residues.ensures in
    let second = modulo_is _ _ second_modulus n f g b _ c.requires.second.0 c.requires.second.1 c.as_slice-2.ensures.value c.in_ok-others.ensures in
    joined_product n f g a b _ (few_coefficients n t.levels (sym c.requires.first.1 ∙ t.whole) t.few_levels) refl c.requires.lengths
    c.requires.left c.requires.right first second c.in_ok-entries.ensures
