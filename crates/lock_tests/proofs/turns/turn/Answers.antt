use Rattle.std.proofs.Common.{◌∙◌, sym, ap}
use Rattle.turn_lock.specs.Passes.{seen}
use Rattle.lock_tests.specs.Sums.{last_sum}
use Rattle.lock_tests.proofs.Knowing.{known_later, at_most_last, known_last}
use Rattle.lock_tests.proofs.turns.turn.Goals as goal

-- src/turns.rt:22:11
pub take_turn-requires-clause-may : goal.take_turn-requires-clause-may
take_turn-requires-clause-may g c κs within =
    λ v others fixed legal found alone. at_most_last v.pairs.items c.args.known legal (known_later (seen c.args.pass.now) v.pairs.items c.args.known (others, found) c.requires.known)

-- src/turns.rt:15:1
pub returns-in-Some-clause-sum : goal.returns-in-Some-clause-sum
returns-in-Some-clause-sum g c =
    let t = c.in-Some.ensures.turn in
    known_last (seen c.take_turn.new.pass) c.in-Some.told.sum t.legal (t.said.0 ∙ ap last_sum (sym t.seen_now))
