-- The walk begins with no bound, stops at the first above the limit, and else has all.
use Rattle.std.proofs.Common.{◌<◌, refl, arith}
use Rattle.std.proofs.lemmas.Grind.{common_steps}
use Rattle.std.proofs.lemmas.List.Elements.{All-nil}
use Rattle.noise_ledger.specs.Bounds.{numbers_for, limit}
use Rattle.noise_ledger.specs.Ledger.{AtMost, node_bounds}
use Rattle.noise_ledger.proofs.Walks.{stops_at, ends_at}
use Rattle.noise_ledger.proofs.ledger.bound_nodes.Goals as goal

pub nodes-init : goal.nodes-init
unfolding node_bounds
nodes-init c = record {
  within = All-nil (AtMost (limit (numbers_for c.args.params.now c.args.threshold)));
  whole = refl;
  later = refl;
}

pub returns-in_err-bounds-clause-place : goal.returns-in_err-bounds-clause-place
returns-in_err-bounds-clause-place c =
    let above : limit (numbers_for c.args.params.now c.args.threshold) < c.next_bound-bound.result = omega (arith, c.in_err-bounds.ensures.above, c.limit-limit.ensures) in
    let first = stops_at (numbers_for c.args.params.now c.args.threshold) c.args.circuit.now c.nodes.bounds c.nodes.k c.next_bound-bound.result (omega arith) c.nodes.invariant.within c.nodes.invariant.whole c.next_bound-bound.ensures.next above in
    let here = first.place in
    grind (arith, common_steps, c.in_err-bounds.ensures.told)

pub returns-in_err-bounds-clause-bound : goal.returns-in_err-bounds-clause-bound
returns-in_err-bounds-clause-bound c =
    let above : limit (numbers_for c.args.params.now c.args.threshold) < c.next_bound-bound.result = omega (arith, c.in_err-bounds.ensures.above, c.limit-limit.ensures) in
    let first = stops_at (numbers_for c.args.params.now c.args.threshold) c.args.circuit.now c.nodes.bounds c.nodes.k c.next_bound-bound.result (omega arith) c.nodes.invariant.within c.nodes.invariant.whole c.next_bound-bound.ensures.next above in
    let here = first.bound in
    grind (arith, common_steps, c.in_err-bounds.ensures.told)

pub returns-in_err-bounds-clause-earlier : goal.returns-in_err-bounds-clause-earlier
returns-in_err-bounds-clause-earlier c =
    let above : limit (numbers_for c.args.params.now c.args.threshold) < c.next_bound-bound.result = omega (arith, c.in_err-bounds.ensures.above, c.limit-limit.ensures) in
    let first = stops_at (numbers_for c.args.params.now c.args.threshold) c.args.circuit.now c.nodes.bounds c.nodes.k c.next_bound-bound.result (omega arith) c.nodes.invariant.within c.nodes.invariant.whole c.next_bound-bound.ensures.next above in
    let here = first.earlier in
    grind (arith, common_steps, c.in_err-bounds.ensures.told)

pub returns-clause-bounds : goal.returns-clause-bounds
returns-clause-bounds c =
    ends_at (numbers_for c.args.params.now c.args.threshold) c.args.circuit.now c.nodes.bounds c.nodes.k (omega arith) (omega arith) c.nodes.invariant.whole
