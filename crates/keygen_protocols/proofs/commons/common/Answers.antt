-- Each turn draws the row at the tape's place.
use Rattle.std.proofs.Common.{◌+◌, ◌*◌, ◌∙◌, ◌++◌, [], ◌∷◌, All, ap, sym, subst, arith, rules}
use Rattle.std.proofs.lemmas.List.Elements.{All-push}
use Rattle.ring_spec.specs.Ring.{IsPoly}
use Rattle.ring_draws.proofs.Steps.{Stands-next}
use Rattle.keygen_protocols.proofs.Rows.{start, starts, so_far, so_far-start, so_far-next, so_far-end, row-here}
use Rattle.keygen_protocols.proofs.commons.common.Goals as goal

pub loop-row-init : goal.loop-row-init
loop-row-init c =
    let p = c.args.ring.now.params in
    record {
      rows = c.new-polys.ensures ∙ so_far-start p.q p.n c.args.public c.args.id;
      fit = search rules;
      tape = starts c.args.public c.args.id c.instance_stream.result (4 * p.n * 0) c.new-tape.result c.new-tape.ensures c.instance_stream.ensures.value (omega arith);
    }

pub loop-row-preserved : goal.loop-row-preserved
loop-row-preserved c =
    let p = c.args.ring.now.params in
    let k = c.loop-row.row in
    let row = c.in_ok-uniform.field-0 in
    let here = row-here p.q p.n c.args.public c.args.id k c.loop-row.tape c.loop-row.invariant.tape in
    record {
      rows = c.in_ok-push.ensures.ok ∙ ap (λ ps. ps ++ row ∷ []) c.loop-row.invariant.rows
          ∙ ap (λ r. so_far p.q p.n c.args.public c.args.id k ++ r ∷ []) (c.in_ok-uniform.ensures.value ∙ here) ∙ so_far-next p.q p.n c.args.public c.args.id k;
      fit = subst (All (IsPoly p.q p.n)) (sym c.in_ok-push.ensures.ok) (All-push (IsPoly p.q p.n) c.loop-row.polys row c.loop-row.invariant.fit c.in_ok-uniform.ensures.fits);
      tape = Stands-next (start c.args.public c.args.id) c.loop-row.tape c.uniform.new.tape (4 * p.n * k) (4 * p.n * (k + 1)) (4 * p.n) c.loop-row.invariant.tape c.in_ok-uniform.ensures.place (omega arith);
    }

pub returns-clause-value : goal.returns-clause-value
returns-clause-value c =
    let p = c.args.ring.now.params in
    c.loop-row.invariant.rows ∙ so_far-end p.q p.n c.args.public c.args.id c.loop-row.row c.args.rows (omega arith)
