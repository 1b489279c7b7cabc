-- The rest of the list from a place on is taken whole.
use Rattle.std.proofs.Common.{◌-◌, length, drop, ap, sym, ◌∙◌, arith}
use Rattle.std.proofs.lemmas.List.{take_all, length-drop, drop-map}
use Rattle.session_script.specs.Words.{texts}
use Rattle.session_script.proofs.lines.behind.Goals as goal

pub returns : goal.returns
returns c =
    let whole = take_all (length c.args.words.now - c.args.count) (drop c.args.count c.args.words.now) (omega (arith, length-drop c.args.count c.args.words.now)) in
    ap texts whole ∙ sym (drop-map (λ x. x.now) c.args.count c.args.words.now)
