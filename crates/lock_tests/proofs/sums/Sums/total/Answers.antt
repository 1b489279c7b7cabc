use Rattle.std.proofs.Common.{◌≡◌, ◌∙◌, ◌-◌, Some, length, slice_get, sym, ap}
use Rattle.std.specs.Option.{option_copied}
use Rattle.lock_tests.proofs.Adding.{found_last, last_is_total}
use Rattle.lock_tests.proofs.sums.Sums.total.Goals as goal

-- src/sums.rt:24:5
pub returns-in-Some-clause-last : goal.returns-in-Some-clause-last
returns-in-Some-clause-last c =
    let ps = c.args.self.now.pairs.items in
    let found : slice_get ps (length ps - 1) ≡ Some c.in-Some.pair.now =
    ap (λ l. slice_get l (length l - 1)) (sym c.deref.ensures.value) ∙ (sym c.last.ensures.value ∙ ap option_copied c.in-Some.is) in
    found_last ps _ found

-- src/sums.rt:24:5
pub returns-in-Some-clause-all : goal.returns-in-Some-clause-all
returns-in-Some-clause-all c =
    let ps = c.args.self.now.pairs.items in
    let found : slice_get ps (length ps - 1) ≡ Some c.in-Some.pair.now =
    ap (λ l. slice_get l (length l - 1)) (sym c.deref.ensures.value) ∙ (sym c.last.ensures.value ∙ ap option_copied c.in-Some.is) in
    found_last ps _ found ∙ last_is_total ps c.args.self.now.adds_up
