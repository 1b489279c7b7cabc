-- Tasks of which a part is done.
use Rattle.std.specs.Prelude.{◌≡◌, ℕ, cond, sum_by, List, []}
use Rattle.session_rules.specs.declared.call.Entry.{Entry}
use Rattle.session_rules.specs.declared.state.CircuitState.{CircuitState}
use Rattle.session_rules.specs.States.{State, is_idle}
use Rattle.session_rules.specs.Tasks.{Task, left}
use Rattle.session_rules.specs.Courses.{to_do}

-- entries do so much of some tasks that these are left; all of them where none is
pub record Leaves (l : ℕ) (ts rest : List Task) (es : List Entry) : Type 0 where
  pub leaves : left l (to_do ts) es ≡ left l (to_do rest) []

-- how many circuits are idle, and so may still be taken
abbrev pub one_if_idle : CircuitState → ℕ
one_if_idle c = cond (is_idle c) 1 0

abbrev pub idle : State → ℕ
idle s = sum_by one_if_idle s.circuits
