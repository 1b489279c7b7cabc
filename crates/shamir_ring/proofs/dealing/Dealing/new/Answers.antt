-- A turn draws one polynomial more.
use Rattle.std.proofs.Common.{◌≡◌, ◌∷◌, [], ◌++◌, ap, ◌∙◌, arith}
use Rattle.std.proofs.lemmas.List.Elements.{All-same, All-push}
use Rattle.ring_spec.specs.Ring.{IsPoly}
use Rattle.param_set.specs.declared.params.Params.{Params}
use Rattle.word_tape.specs.Standing.{Standing}
use Rattle.shamir_ring.proofs.Draws.{drawn_more, place_more}
use Rattle.shamir_ring.proofs.dealing.Dealing.new.Goals as goal

pub loop-preserved : goal.loop-preserved
loop-preserved c =
    let p = c.args.ring.now.params in
    let d = c.loop.counter in
    let before = c.loop.invariant in
    let tape = c.loop.tape in
    let was = c.loop.coefficients.items in
    let now = c.push-in-loop.new.self.items in
    let u = c.in_ok-uniform.field-0 in
    let pushed : now ≡ was ++ u ∷ [] = c.in_ok-push-2.ensures.items in
    record {
      some = omega arith;
      few = omega (arith, ap (λ (x : Params). x.threshold) c.params.ensures);
      drawn = drawn_more p.q p.n d tape.next tape.stream c.args.seed tape.seed was now u before.some before.drawn before.seed before.stream before.place
          c.in_ok-uniform.ensures.value pushed;
      fit = All-same (IsPoly p.q p.n) now (was ++ u ∷ []) pushed (All-push (IsPoly p.q p.n) was u before.fit c.in_ok-uniform.ensures.fits);
      seed = ap (λ (t : Standing). t.seed) c.in_ok-uniform.ensures.place ∙ before.seed;
      stream = ap (λ (t : Standing). t.stream) c.in_ok-uniform.ensures.place ∙ before.stream;
      place = ap (λ (t : Standing). t.next) c.in_ok-uniform.ensures.place ∙ place_more p.n d tape.next (omega arith) before.some (omega (arith, ap (λ (x : Params). x.threshold) c.params.ensures)) before.place;
    }
