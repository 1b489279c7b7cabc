-- Its one circuit asks for few rotations and inputs.
use Rattle.std.proofs.Common.{◌∙◌, ap, refl}
use Rattle.session_tests.proofs.Modest.{keeps_if, modest_if}
use Rattle.session_core.specs.Calls.{known}
use Rattle.lane_tests.proofs.Inputs.{none_if}
use Rattle.lane_tests.proofs.setting.open.Goals as goal

pub new-requires-4-clause-modest : goal.new-requires-4-clause-modest
new-requires-4-clause-modest c =
    modest_if _ c.in-Some.params _ c.in_ok-circuits.field-0 c.in-Some-2.circuits c.in-Some-2.is (ap (λ z. z.params) c.in_ok-ring.ensures.ok ∙ c.in_ok-new.ensures) c.in-Some.ensures.0
    c.in_ok-circuits.ensures.keep c.in_ok-circuits.ensures.one

pub new-requires-4-clause-keep : goal.new-requires-4-clause-keep
new-requires-4-clause-keep c =
    keeps_if _ c.in-Some.params c.in_ok-circuits.field-0 c.in-Some-2.circuits c.in-Some-2.is (ap (λ z. z.params) c.in_ok-ring.ensures.ok ∙ c.in_ok-new.ensures) c.in_ok-circuits.ensures.keep

pub returns-clause-none : goal.returns-clause-none
returns-clause-none c =
    none_if _ (known c.in_ok-new-2.field-0).setting c.in_ok-circuits.field-0 c.in-Some-2.circuits c.in-Some-2.is c.in_ok-circuits.ensures.none c.in_ok-new-2.ensures.opened.setting refl
