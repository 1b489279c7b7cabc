-- Its one circuit asks for few rotations and inputs.
use Rattle.std.proofs.Common.{◌∙◌, ap}
use Rattle.param_set.specs.Numbers.{Numbers}
use Rattle.session_tests.proofs.Modest.{keeps_if, modest_if}
use Rattle.session_tests.proofs.sessions.open.Goals as goal

pub new-requires-3-clause-modest : goal.new-requires-3-clause-modest
new-requires-3-clause-modest c =
    modest_if _ c.in_ok-params.params _ c.in_ok-circuits.field-0 c.in-Some.circuits c.in-Some.is (ap (λ z. z.params) c.in_ok-ring.ensures.ok ∙ c.in_ok-new.ensures) (ap (λ (p : Numbers). p.n) c.in_ok-params.ensures)
    c.in_ok-circuits.ensures.keep c.in_ok-circuits.ensures.one

pub new-requires-3-clause-keep : goal.new-requires-3-clause-keep
new-requires-3-clause-keep c =
    keeps_if _ c.in_ok-params.params c.in_ok-circuits.field-0 c.in-Some.circuits c.in-Some.is (ap (λ z. z.params) c.in_ok-ring.ensures.ok ∙ c.in_ok-new.ensures) c.in_ok-circuits.ensures.keep
