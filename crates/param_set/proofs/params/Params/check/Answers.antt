use Rattle.std.proofs.Common.{◌-◌, ◌*◌, ◌/◌, ◌%◌, ◌^◌, sym, ◌∙◌, ap, arith}
use Rattle.std.proofs.lemmas.Nat.{mod_below}
use Rattle.param_set.specs.Rules.{root_of, root_power}
use Rattle.param_set.proofs.Judged.{passed}
use Rattle.param_set.proofs.params.Params.check.Goals as goal

pub overflow_sub-raw : goal.overflow_sub-raw
overflow_sub-raw c =
    let p = passed c.args.raw.now (sym c.first_bad.ensures ∙ c.in_default.is) in
    omega (arith, p.modulus.least)

pub overflow_mul-raw : goal.overflow_mul-raw
overflow_mul-raw c =
    let p = passed c.args.raw.now (sym c.first_bad.ensures ∙ c.in_default.is) in
    omega (arith, p.degree.1)

pub nonzero_div-raw : goal.nonzero_div-raw
nonzero_div-raw c =
    let p = passed c.args.raw.now (sym c.first_bad.ensures ∙ c.in_default.is) in
    omega (arith, p.degree.0)

pub power-psi-requires : goal.power-psi-requires
power-psi-requires c =
    let p = passed c.args.raw.now (sym c.first_bad.ensures ∙ c.in_default.is) in
    omega (arith, p.modulus.least)

pub power-value-requires : goal.power-value-requires
power-value-requires c =
    let p = passed c.args.raw.now (sym c.first_bad.ensures ∙ c.in_default.is) in
    omega (arith, p.modulus.least)

pub overflow_sub-raw-2 : goal.overflow_sub-raw-2
overflow_sub-raw-2 c =
    let p = passed c.args.raw.now (sym c.first_bad.ensures ∙ c.in_default.is) in
    omega (arith, p.modulus.least)

pub returns-then-value-raw-clause-fault : goal.returns-then-value-raw-clause-fault
unfolding root_of root_power
returns-then-value-raw-clause-fault c =
    let raw = c.args.raw.now in (
      sym c.first_bad.ensures ∙ c.in_default.is,
      c.power-value.ensures ∙ ap (λ z. z ^ raw.n % raw.q) c.power-psi.ensures,
      c.if-value-raw.true,
    )

pub invariant_of-result : goal.invariant_of-result
invariant_of-result c =
    let raw = c.args.raw.now in
    let p = passed raw (sym c.first_bad.ensures ∙ c.in_default.is) in
    let residue = mod_below (raw.root ^ ((raw.q - 1) / (2 * raw.n))) raw.q (omega (arith, p.modulus.least)) in
    record {
      degree = p.degree;
      modulus = (p.modulus.least, p.modulus.greatest, p.modulus.one);
      no_small_factor = p.modulus.no_factor;
      plain_modulus = p.plain;
      noise = (p.digits.0, p.digits.1, p.err.0, p.err.1, p.flood);
      group = (p.threshold.0, p.threshold.1, p.parties);
      root = (rw c.power-psi.ensures residue, sym c.power-value.ensures ∙ c.if-value-raw.false);
    }

pub returns-clause-root : goal.returns-clause-root
unfolding root_of root_power
returns-clause-root c =
    let raw = c.args.raw.now in
    sym (c.power-value.ensures ∙ ap (λ z. z ^ raw.n % raw.q) c.power-psi.ensures) ∙ c.if-value-raw.false

pub returns-clause-psi : goal.returns-clause-psi
unfolding root_of
returns-clause-psi c = c.power-psi.ensures
