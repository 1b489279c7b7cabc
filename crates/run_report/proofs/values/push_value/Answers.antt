-- What is kept is printed, or `0` where that is nothing.
use Rattle.std.proofs.Common.{◌≡◌, ◌<◌, length, rules}
use Rattle.run_report.proofs.Spaced.{value-zero, value-kept}
use Rattle.run_report.proofs.values.push_value.Goals as goal

pub returns-then-is_empty : goal.returns-then-is_empty
returns-then-is_empty c =
    let none : length c.trimmed-kept.result.now ≡ 0 = search rules in
    rw (← value-zero c.args.coeffs.now c.trimmed-kept.result.now c.trimmed-kept.ensures none) c.push_spaced.ensures

pub returns-else-is_empty : goal.returns-else-is_empty
returns-else-is_empty c =
    let some : 0 < length c.trimmed-kept.result.now = search rules in
    rw (← value-kept c.args.coeffs.now c.trimmed-kept.result.now c.trimmed-kept.ensures some) c.push_spaced-else-is_empty.ensures
