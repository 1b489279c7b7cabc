-- Each turn writes the draw at the tape's place, which is as many words on as the entries before took.
use Rattle.std.proofs.Common.{◌+◌, ◌∙◌, ap, arith, rules, w64}
use mir.Val.{SFits}
use Rattle.std.proofs.lemmas.Int.{to_z-of_z}
use Rattle.ring_spec.specs.Ring.{residue, residues}
use Rattle.bfv_spec.specs.Drawn.{small_poly}
use Rattle.bfv_laws.proofs.Draws.{small_within}
use Rattle.mod_ring.proofs.Filled.{Filled-next, Filled-end}
use Rattle.ring_draws.proofs.Steps.{Stands-next, drawn-within, small-here, small_entry}
use Rattle.ring_draws.proofs.fill.fill_small.Goals as goal

pub residue_within-requires : goal.residue_within-requires
residue_within-requires c =
    let now = c.loop-i.tape in
    let fits : SFits w64 c.small_by.result = search rules in
    drawn-within c.args.q c.args.bound _ _ (to_z-of_z w64 c.small_by.result fits ∙ c.small_by.ensures.value) (small_within now.seed now.stream c.args.bound now.next) c.requires.modulus

pub loop-i-preserved : goal.loop-i-preserved
loop-i-preserved c =
    let s = c.args.tape.now in
    let now = c.loop-i.tape in
    let here = small-here s now c.loop-i.i c.args.bound c.loop-i.invariant.tape in
    let fits : SFits w64 c.small_by.result = search rules in
    record {
      filled = Filled-next (small_entry c.args.q c.args.bound c.args.tape.now) c.args.entries.now c.loop-i.entries c.loop-i.i _ (omega arith) (c.residue_within.ensures ∙ ap (residue c.args.q) (to_z-of_z w64 c.small_by.result fits ∙ c.small_by.ensures.value ∙ here)) c.loop-i.invariant.filled;
      tape = Stands-next s now c.small_by.new.self c.loop-i.i (c.loop-i.i + 1) 1 c.loop-i.invariant.tape c.small_by.ensures.place (omega arith);
    }

pub returns-clause-value : goal.returns-clause-value
unfolding small_poly residues
returns-clause-value c =
    Filled-end (small_entry c.args.q c.args.bound c.args.tape.now) c.args.entries.now c.loop-i.entries _ c.loop-i.i c.loop-i.auto.entries (omega arith) c.loop-i.invariant.filled
