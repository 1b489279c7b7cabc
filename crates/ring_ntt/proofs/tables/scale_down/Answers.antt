use Rattle.std.proofs.Common.{◌≡◌, ◌*◌, ◌%◌, ◌<◌, length, get_or, refl, ◌∙◌, ap, arith}
use Rattle.ring_ntt.proofs.Slots.{set_done, set_rest}
use Rattle.ring_ntt.proofs.tables.scale_down.Goals as goal

pub loop-x-init : goal.loop-x-init
loop-x-init c = record { done = λ k h. absurd (omega (arith, h)); rest = λ k h. refl }

pub loop-x-preserved : goal.loop-x-preserved
loop-x-preserved c =
    let q = c.args.q in
    let i = c.loop-x.x-index in
    let w = c.args.scale.root in
    let old = c.args.a.now in
    let here : i < length c.loop-x.a = omega arith in
    record {
      done = set_done (λ k v. v ≡ w * get_or old k 0 % q) c.loop-x.a i c.lowered.result here c.loop-x.invariant.done
          (c.lowered.ensures ∙ c.scaled.ensures.same ∙ ap (λ z. w * z % q) (c.loop-x.invariant.rest i (omega arith)));
      rest = set_rest c.loop-x.a old i c.lowered.result c.loop-x.invariant.rest;
    }

pub returns-clause-scaled : goal.returns-clause-scaled
returns-clause-scaled c = λ k h. c.loop-x.invariant.done k (omega arith)
