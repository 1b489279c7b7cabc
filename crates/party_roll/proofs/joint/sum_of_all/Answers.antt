-- Each turn adds what one more party deals.
use Rattle.std.proofs.Common.{◌≡◌, ◌∙◌, ap, arith}
use Rattle.std.proofs.lemmas.Grind.{common_steps}
use Rattle.share_spec.specs.Dealing.{dealing}
use Rattle.party_roll.proofs.Sums.{sum_start, sum_next, sum_end}
use Rattle.party_roll.proofs.joint.sum_of_all.Goals as goal

pub loop-i-init : goal.loop-i-init
loop-i-init c =
    let m = c.args.ring.now.params in
    record {
      shares = sum_start m.q m.n m.threshold c.args.roll.now.master c.in_ok-sum.sum (omega arith)
          (c.in_ok-sum.ensures.value ∙ ap (dealing m.q m.n m.threshold) c.seed.ensures);
      number = c.in_ok-sum.ensures.number;
      fit = c.in_ok-sum.ensures.fits;
    }

pub loop-i-preserved : goal.loop-i-preserved
loop-i-preserved c =
    let m = c.args.ring.now.params in
    record {
      shares = sum_next m.q m.n m.threshold c.args.roll.now.master c.loop-i.i c.loop-i.sum c.in_ok-dealing.dealing c.add.new.self (omega arith)
          c.loop-i.invariant.shares (c.in_ok-dealing.ensures.value ∙ ap (dealing m.q m.n m.threshold) c.seed-in-loop-i.ensures) c.add.ensures.values;
      number = c.add.ensures.number ∙ c.loop-i.invariant.number;
      fit = c.add.ensures.fits;
    }

pub returns-clause-shares : goal.returns-clause-shares
returns-clause-shares c =
    let m = c.args.ring.now.params in
    let all : c.loop-i.i ≡ m.parties = grind (arith, common_steps) in
    sum_end m.q m.n m.threshold c.args.roll.now.master c.loop-i.i m.parties c.loop-i.sum all c.loop-i.invariant.shares
