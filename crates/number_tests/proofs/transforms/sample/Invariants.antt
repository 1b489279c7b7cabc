use Rattle.std.proofs.Common.{◌≡◌, ◌<◌, length, All}
use Rattle.number_tests.proofs.transforms.sample.Given as goal

abbrev pub invariant-entries : goal.invariant-entries
invariant-entries l = record { count : length l.f.items ≡ l.k; below : All (λ x. x < l.q) l.f.items }
