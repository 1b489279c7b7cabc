use Rattle.std.proofs.Common.{◌≡◌, ◌∙◌, sym, ap, subst}
use Rattle.std.specs.Prelude.{All}
use Rattle.param_set.specs.declared.params.Params.{Params}
use Rattle.session_spec.specs.Settings.{Keeps}
use Rattle.session_bench.proofs.Modest.{is_modest}
use Rattle.session_bench.proofs.setting.session_over.Goals as goal

pub new-requires-4-clause-modest : goal.new-requires-4-clause-modest
new-requires-4-clause-modest c =
    let made = c.in_ok-ring.ring.value.params in
    let same : made ≡ c.args.params.now = ap (λ z. z.params) c.in_ok-ring.ensures.ok ∙ c.in_ok-new.ensures in
    is_modest made _ c.args.circuits (subst (λ (z : Params). All (Keeps z) c.args.circuits) (sym same) c.requires.keep) c.requires.free c.requires.one
