-- A turn adds one polynomial more.
use Rattle.std.proofs.Common.{◌≡◌, ◌∙◌, get_or, arith, rules}
use Rattle.shamir_ring.proofs.Sums.{total_none, total_more}
use Rattle.shamir_ring.proofs.parts.combine.Goals as goal

pub loop-f-init : goal.loop-f-init
loop-f-init c =
    let p = c.args.ring.now.params in
    record { fits = c.in_ok-sum.ensures.fits; sum = c.in_ok-sum.ensures.value ∙ total_none p.q p.n c.args.dealt.now (omega arith) }

pub loop-f-preserved : goal.loop-f-preserved
loop-f-preserved c =
    let p = c.args.ring.now.params in
    let read : c.f-item.result ≡ get_or c.args.dealt.now c.loop-f.f-index c.f-item.result = search rules in
    record {
      fits = c.add_into.ensures.fits;
      sum = total_more p.q p.n c.args.dealt.now c.loop-f.f-index c.loop-f.sum c.f-item.result c.add_into.new.acc (omega arith) (omega arith) c.requires
          c.loop-f.invariant.sum read c.add_into.ensures.value;
    }
