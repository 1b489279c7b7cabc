use Rattle.std.proofs.Common.{◌≡◌, []}
use Rattle.std.specs.List.{range_with_len, flat_map}
use Rattle.session_rules.specs.States.{seen}
use Rattle.session_rules.specs.Steps.{owed_of}
use Rattle.session_rules.proofs.owed.owed_of_all.Given as goal

abbrev pub invariant-circuits : goal.invariant-circuits
invariant-circuits l =
    l.owed.items ≡ flat_map (owed_of l.fn.fixed (seen 0 [] l.fn.given []) l.fn.p) (range_with_len 0 l.c)
