use Rattle.std.proofs.Common.{◌≡◌, ℕ, length}
use Rattle.std.specs.Prelude.{All}
use Rattle.ring_spec.specs.Ring.{IsPoly}
use Rattle.share_spec.specs.Dealing.{value_at}
use Rattle.party_roll.proofs.Sums.{share_of}
use Rattle.party_roll.proofs.joint.sum_of_all.Given as goal

abbrev pub invariant-loop-i : goal.invariant-loop-i
invariant-loop-i l = record {
  shares : (p : ℕ) → value_at l.ring.params.q l.ring.params.n l.sum p ≡ share_of l.ring.params.q l.ring.params.n l.ring.params.threshold l.roll.master l.i p;
  number : length l.sum ≡ l.ring.params.threshold;
  fit : All (IsPoly l.ring.params.q l.ring.params.n) l.sum;
}
