-- Each turn writes the draw at the tape's place, which is as many words on as the entries before took.
use Rattle.std.proofs.Common.{ℕ, ◌+◌, ◌*◌, ◌∙◌, ap, arith}
use Rattle.bfv_spec.specs.Drawn.{uniform_poly}
use Rattle.draw_spec.specs.Draws.{uniform}
use Rattle.mod_ring.proofs.Filled.{Filled-next, Filled-end}
use Rattle.ring_draws.proofs.Steps.{Stands-next, uniform-here, uniform_entry}
use Rattle.ring_draws.proofs.fill.fill_uniform.Goals as goal

pub loop-i-preserved : goal.loop-i-preserved
loop-i-preserved c =
    let s = c.args.tape.now in
    let now = c.loop-i.tape in
    let here = uniform-here s now (4 * c.loop-i.i) c.args.q c.loop-i.invariant.tape in
    record {
      filled = Filled-next (uniform_entry c.args.q c.args.tape.now) c.args.entries.now c.loop-i.entries c.loop-i.i _ (omega arith) (c.uniform_by.ensures.value ∙ ap (λ (z : ℕ). uniform now.seed now.stream z now.next) c.new-modulus.ensures ∙ here) c.loop-i.invariant.filled;
      tape = Stands-next s now c.uniform_by.new.self (4 * c.loop-i.i) (4 * (c.loop-i.i + 1)) 4 c.loop-i.invariant.tape c.uniform_by.ensures.place (omega arith);
    }

pub returns-clause-value : goal.returns-clause-value
unfolding uniform_poly
returns-clause-value c =
    Filled-end (uniform_entry c.args.q c.args.tape.now) c.args.entries.now c.loop-i.entries _ c.loop-i.i c.loop-i.auto.entries (omega arith) c.loop-i.invariant.filled
