-- The list that was filled is the polynomial with X^g for X.
use Rattle.std.proofs.Common.{◌≡◌, ◌∙◌, arith}
use Rattle.std.proofs.lemmas.Grind.{common_steps}
use Rattle.circuit_form.proofs.Terms.{turned_whole, turned_fits}
use Rattle.circuit_form.proofs.turns.turn.Goals as goal

pub returns-clause-value : goal.returns-clause-value
returns-clause-value c =
    let p = c.args.params.now in
    let h = c.put_turned.new.coeffs in
    let same : c.from_vec.result ≡ h = grind (arith, common_steps) in
    same
    ∙ turned_whole p.t c.t.result p.n c.args.g c.args.f.now c.coeffs.result.now h
    c.t.ensures c.coeffs.ensures c.requires.poly.entries c.put_turned.ensures.count c.put_turned.ensures.turned

pub returns-clause-fits : goal.returns-clause-fits
returns-clause-fits c =
    turned_fits c.args.params.now.t c.args.params.now.n c.args.g c.args.f.now c.from_vec.result
    (returns-clause-value c) (omega arith)
