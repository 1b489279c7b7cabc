-- A turn takes the party that comes first, and ends where nobody is left.
use Rattle.std.proofs.Common.{◌≡◌, ℕ, suc, ◌+◌, ◌-◌, sym, ap, ◌∙◌, refl, arith}
use Rattle.participants.specs.Loads.{chosen_from, chosen}
use Rattle.participants.proofs.Choosing.{chosen_done, chosen_all, chosen_next}
use Rattle.participants.proofs.choice.choose.Goals as goal

pub loop-init : goal.loop-init
unfolding chosen
loop-init c = record { whole = let e : c.args.k - 0 ≡ c.args.k = omega arith in rw e refl }

pub returns-in-None : goal.returns-in-None
returns-in-None c =
    let none = sym c.first.ensures.value ∙ c.in-None.is in
    sym (chosen_all (c.args.k - c.loop.counter) c.args.loads.now c.loop.rest.bits c.loop.taken.bits none) ∙ c.loop.invariant.whole

pub loop-preserved : goal.loop-preserved
loop-preserved c =
    let p = c.in-Some.p in
    let found = sym c.first.ensures.value ∙ c.in-Some.is in
    let more : suc (c.args.k - (c.loop.counter + 1)) ≡ c.args.k - c.loop.counter = omega arith in
    record {
      whole = rw (c.without-rest.ensures, c.with-taken.ensures)
          (sym (chosen_next (c.args.k - (c.loop.counter + 1)) c.args.loads.now c.loop.rest.bits c.loop.taken.bits p found)
          ∙ ap (λ (k : ℕ). chosen_from k c.args.loads.now c.loop.rest.bits c.loop.taken.bits) more ∙ c.loop.invariant.whole);
    }

pub returns : goal.returns
returns c =
    let none : c.args.k - c.loop.counter ≡ 0 = omega arith in
    sym (chosen_done c.args.loads.now c.loop.rest.bits c.loop.taken.bits)
    ∙ ap (λ (k : ℕ). chosen_from k c.args.loads.now c.loop.rest.bits c.loop.taken.bits) (sym none) ∙ c.loop.invariant.whole
