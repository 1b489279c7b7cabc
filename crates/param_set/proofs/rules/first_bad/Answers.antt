use Rattle.std.proofs.Common.{sym, ◌∙◌, arith}
use Rattle.param_set.proofs.Judged.{degree_is, modulus_is}
use Rattle.param_set.proofs.rules.first_bad.Goals as goal

pub is_modulus-requires-clause-some : goal.is_modulus-requires-clause-some
is_modulus-requires-clause-some c = omega (arith, (degree_is c.args.raw.now.n (sym c.is_degree.ensures ∙ c.if-not-is_degree.false)).0)

pub is_modulus-requires-clause-few : goal.is_modulus-requires-clause-few
is_modulus-requires-clause-few c = (degree_is c.args.raw.now.n (sym c.is_degree.ensures ∙ c.if-not-is_degree.false)).1

pub overflow_sub-raw : goal.overflow_sub-raw
overflow_sub-raw c =
    let raw = c.args.raw.now in
    let modulus = modulus_is raw.n raw.q (sym c.is_modulus.ensures ∙ c.if-not-is_modulus.false) in
    omega (arith, modulus.least)
