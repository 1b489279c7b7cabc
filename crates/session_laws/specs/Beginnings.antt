-- What the laws ask for is met at first.
use Rattle.std.specs.Prelude.{◌≡◌, ℕ, List, length}
use Rattle.param_set.specs.declared.params.Params.{Params}
use Rattle.session_rules.specs.States.{opening}
use Rattle.session_spec.specs.Settings.{Setting, rules, IsSetting, HasValues, NeedsNoSwitch}
use Rattle.session_spec.specs.Stores.{empty}
use Rattle.session_laws.specs.Laws.{Stands}

abbrev pub OpeningStands : Type 0
OpeningStands =
    (p : Params) (w : Setting) (seeds : List (List ℕ))
    → IsSetting p w → HasValues p w → NeedsNoSwitch w → length seeds ≡ p.parties
    → Stands p w seeds (opening (rules w)) (empty w)
