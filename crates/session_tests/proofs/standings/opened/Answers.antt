use Rattle.std.proofs.Common.{◌≡◌, ◌∙◌, sym, ap}
use Rattle.param_set.specs.Numbers.{Numbers}
use Rattle.session_rules.specs.States.{opening}
use Rattle.session_spec.specs.Settings.{Setting, rules}
use Rattle.session_state.specs.Standings.{setting, state}
use Rattle.session_state.proofs.Openings.{opens_well}
use Rattle.session_tests.proofs.Modest.{modest_if}
use Rattle.session_tests.proofs.standings.opened.Goals as goal

-- Its one circuit asks for few rotations.
pub new-requires-3-clause-turns : goal.new-requires-3-clause-turns
new-requires-3-clause-turns c =
    (modest_if _ c.in_ok-params.params _ c.in_ok-circuits.field-0 c.in-Some.circuits c.in-Some.is (ap (λ z. z.params) c.in_ok-ring.ensures.ok ∙ c.in_ok-new.ensures) (ap (λ (p : Numbers). p.n) c.in_ok-params.ensures)
    c.in_ok-circuits.ensures.keep c.in_ok-circuits.ensures.one).turns

pub returns-clause-kept : goal.returns-clause-kept
returns-clause-kept c =
    let st = c.in_ok-new-2.field-0 in
    (opens_well (setting st) (state st) (c.in_ok-new-2.ensures.state ∙ ap (λ (w : Setting). opening (rules w)) (sym c.in_ok-new-2.ensures.setting))).0

pub returns-clause-grounded : goal.returns-clause-grounded
returns-clause-grounded c =
    let st = c.in_ok-new-2.field-0 in
    (opens_well (setting st) (state st) (c.in_ok-new-2.ensures.state ∙ ap (λ (w : Setting). opening (rules w)) (sym c.in_ok-new-2.ensures.setting))).1
