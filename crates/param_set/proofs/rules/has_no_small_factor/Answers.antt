use Rattle.std.proofs.Common.{suc, add-one, ◌+◌, ◌%◌, ◌≡◌, refl, subst, arith}
use Rattle.std.specs.Prelude.{IsTrue, not, nat_eq}
use Rattle.std.proofs.lemmas.Bool.{and_from, not_from_false, ne_eqb}
use Rattle.param_set.specs.Moduli.{indivisible}
use Rattle.param_set.proofs.Divisors.{shares_none}
use Rattle.param_set.proofs.rules.has_no_small_factor.Goals as goal

pub divisors-init : goal.divisors-init
unfolding indivisible
divisors-init c = refl

pub divisors-preserved : goal.divisors-preserved
unfolding indivisible
divisors-preserved c =
    let q = c.args.q in
    let k = c.divisors.k in
    let rest = not_from_false (nat_eq (q % (k + 2)) 0) (ne_eqb (q % (k + 2)) 0 c.if-q-k-eq0.false) in
    let more : IsTrue (indivisible q (suc k)) = and_from (indivisible q k) (not (nat_eq (q % (k + 2)) 0)) c.divisors.invariant rest in
    rw add-one more

pub returns-clause-coprime : goal.returns-clause-coprime
returns-clause-coprime c =
    let q = c.args.q in
    let e : c.divisors.k ≡ 31 = omega arith in
    (λ _. shares_none q (subst (λ z. IsTrue (indivisible q z)) e c.divisors.invariant), λ _. refl)
