-- A zero at the end goes; at the end of the loop there is none.
use Rattle.std.proofs.Common.{◌≡◌, ◌≢◌, ◌∙◌, sym, ◌-◌, ◌<◌, get_or, rules, arith}
use Rattle.run_report.proofs.Trimmed.{one_less, all_kept, none_kept}
use Rattle.run_report.proofs.values.trimmed.Goals as goal
use Rattle.run_report.proofs.values.trimmed.Goals.{then-zeros-test+else-coeffs-end-eq0, else-zeros-test}

pub zeros-preserved : goal.zeros-preserved
zeros-preserved c =
    let zero : get_or c.args.coeffs.now (c.zeros.end - 1) 0 ≡ 0 = search rules in
    let some : 0 < c.zeros.end = omega arith in (
      omega arith,
      one_less c.args.coeffs.now c.zeros.end some c.zeros.invariant.0 zero ∙ c.zeros.invariant.1,
    )

pub returns : goal.returns
returns c = elim c.zeros-test.branch [
  | then-zeros-test+else-coeffs-end-eq0 w ↦
      let other : get_or c.args.coeffs.now (c.zeros.end - 1) 0 ≢ 0 = search rules in
      let some : 0 < c.zeros.end = omega arith in
      sym (all_kept c.args.coeffs.now c.zeros.end some c.zeros.invariant.0 other) ∙ c.zeros.invariant.1
  | else-zeros-test w ↦
      let none : c.zeros.end ≡ 0 = omega arith in
      sym (none_kept c.args.coeffs.now c.zeros.end none) ∙ c.zeros.invariant.1
]
