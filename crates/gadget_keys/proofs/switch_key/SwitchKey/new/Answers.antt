-- The loop has kept each row.
use Rattle.std.proofs.Common.{◌≡◌, ℕ, ◌∙◌, List, length, map, sym, subst, ap, arith, rules}
use Rattle.std.specs.List.{range_with_len}
use Rattle.gadget_keys.specs.declared.key_row.Row.{Row}
use Rattle.gadget_keys.specs.Keys.{stands_for, key_rows, beside}
use Rattle.gadget_keys.proofs.Kept.{Begun, Begun-start, Begun-next}
use Rattle.gadget_keys.proofs.switch_key.SwitchKey.new.Goals as goal

pub rows-init : goal.rows-init
rows-init c =
    let p = c.args.ring.now.params in
    subst (λ (rows : List Row). Begun p c.args.b c.args.a rows 0) (sym c.new-rows.ensures.items) (Begun-start p c.args.b c.args.a)

pub rows-preserved : goal.rows-preserved
rows-preserved c =
    let row = c.in_ok-row.row in
    let is : stands_for row ≡ beside c.args.b c.args.a c.rows.i =
    c.in_ok-row.ensures.value
    ∙ ap (λ (x : List ℕ). record { b = x; a = c.at-in-rows.result.now }) c.at.ensures
    ∙ ap (λ (x : List ℕ). record { b = (beside c.args.b c.args.a c.rows.i).b; a = x }) c.at-in-rows.ensures in
    Begun-next c.args.ring.now.params c.args.b c.args.a c.rows.rows.items c.push.new.self.items row c.rows.i (search rules)
    is c.in_ok-row.ensures.fits c.rows.invariant

pub returns-clause-rows : goal.returns-clause-rows
unfolding key_rows
returns-clause-rows c =
    let end : c.rows.i ≡ length c.args.b = omega (arith, c.rows-test.false, c.rows.auto.i-end, c.len-i-end.ensures) in
    c.rows.invariant.rows ∙ ap (λ (n : ℕ). map (beside c.args.b c.args.a) (range_with_len 0 n)) end
