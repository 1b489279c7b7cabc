use Rattle.std.proofs.Common.{◌≡◌, ◌<◌, length, get_or, sym, ◌∙◌, subst}
use Rattle.ring_ntt.specs.Nodes.{powers}
use Rattle.ring_ntt.proofs.Reversal.{powers_below}
use Rattle.ring_ntt.proofs.twiddles.Twiddles.new.Goals as goal

pub quotients_of-requires : goal.quotients_of-requires
quotients_of-requires c = λ k h.
    let q = c.args.modulus in
    let zs = powers q c.args.levels c.args.base in
    let e : c.as_slice.result.now ≡ zs = c.as_slice.ensures.value ∙ c.in_ok-push_powers.ensures in
    subst (λ z. get_or z k 0 < q) (sym e) (powers_below q c.args.levels c.args.base k c.requires.above_one (subst (λ z. k < length z) e h))
