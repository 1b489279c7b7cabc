-- The fixed data of a session, from the numbers of its parameters and its circuits.
use Rattle.std.specs.Prelude.{ℕ, ◌*◌, Bool, nat_eq, ◌&&◌, List, map, filter, Option, Some, None}
use Rattle.std.specs.List.{range_with_len, list_any}
use Rattle.param_set.specs.Moduli.{digit_rows}
use Rattle.circuit_form.specs.declared.node.Node.{Node}
use Rattle.circuit_form.specs.Circuits.{owners, has_product, has_rot}
use Rattle.noise_ledger.specs.declared.over.Place.{Place}
use Rattle.param_set.specs.Numbers.{Numbers}
use Rattle.noise_ledger.specs.Bounds.{limit}
use Rattle.noise_ledger.specs.Ledger.{place_bound, first_over}
use Rattle.session_rules.specs.declared.fixed.Plan.{Plan}
use Rattle.session_rules.specs.declared.fixed.Fixed.{Fixed}
use Rattle.session_rules.specs.declared.state.CircuitState.{CircuitState}
use Rattle.session_rules.specs.declared.state.CircuitState.TheVariants.{Refused, Idle}
use Rattle.session_rules.specs.States.{is_admitted}

-- how a circuit begins: refused at its first place whose bound is above the limit, else idle
unfoldable pub begins_as : Numbers → List Node → Option Place → CircuitState
begins_as p nodes None = Idle
begins_as p nodes (Some place) = Refused place (place_bound p nodes place) (limit p)

abbrev pub rotates : List Node → ℕ → Bool
rotates nodes g = has_rot g nodes

unfoldable pub plan_of : Numbers → List Node → Plan
plan_of p nodes =
    record {
      nodes = nodes;
      owners = owners nodes;
      product = has_product nodes;
      turns = filter (rotates nodes) (range_with_len 0 (2 * p.n));
      opening = begins_as p nodes (first_over p nodes);
    }

-- whether a circuit is admitted and rotates by g, and whether one of some is
abbrev pub admits_turn : ℕ → Plan → Bool
admits_turn g plan = is_admitted plan && list_any (nat_eq g) plan.turns

abbrev pub is_turned : List Plan → ℕ → Bool
is_turned plans g = list_any (admits_turn g) plans

unfoldable pub fixed_from : Numbers → List Plan → Fixed
fixed_from p plans =
    record {
      numbers = p;
      threshold = p.threshold;
      rows = digit_rows p.q p.digit_bits;
      plans = plans;
      turns = filter (is_turned plans) (range_with_len 0 (2 * p.n));
    }

abbrev pub fixed_of : Numbers → List (List Node) → Fixed
fixed_of p circuits = fixed_from p (map (plan_of p) circuits)
