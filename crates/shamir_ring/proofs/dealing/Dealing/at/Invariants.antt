use Rattle.std.proofs.Common.{◌≡◌, ◌-◌, length, drop}
use Rattle.ring_spec.specs.Ring.{IsPoly}
use Rattle.share_spec.specs.Dealing.{value_at}
use Rattle.shamir_ring.proofs.dealing.Dealing.at.Given as goal

abbrev pub invariant-loop-place : goal.invariant-loop-place
invariant-loop-place l = record {
  fits : IsPoly l.ring.params.q l.ring.params.n l.entries;
  value : l.entries ≡ value_at l.ring.params.q l.ring.params.n (drop (length l.self - l.place) l.self) l.point;
}
