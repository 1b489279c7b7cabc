-- The plaintexts passed fit.
use Rattle.std.proofs.Common.{ℕ, List, ◌<◌, get_or}
use Rattle.ring_spec.specs.Ring.{IsPoly}
use Rattle.scheme_tests.proofs.circuits.all_fit.Given as goal

abbrev pub invariant-inputs : goal.invariant-inputs
invariant-inputs l =
    (k : ℕ) (d : List ℕ) → k < l.plain-index → IsPoly l.params.t l.params.n (get_or l.inputs k d)
