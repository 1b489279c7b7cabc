use Rattle.std.proofs.Common.{◌≡◌, ◌*◌, ◌%◌, ◌^◌, ◌<◌}
use Rattle.param_set.proofs.root.power.Given as goal

abbrev pub invariant-squarings : goal.invariant-squarings
invariant-squarings l = record { reduced : l.made < l.q; same : (l.made * l.square ^ l.rest) % l.q ≡ l.base ^ l.exponent % l.q }

abbrev pub decreases-squarings : goal.decreases-squarings
decreases-squarings l = l.rest
