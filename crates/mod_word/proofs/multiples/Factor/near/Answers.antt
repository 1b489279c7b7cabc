-- The multiple of q may be left out.
use Rattle.std.proofs.Common.{◌%◌, sym, ◌∙◌, ap}
use Rattle.std.proofs.Math.Nat.{mul-add-mod_self_right}
use Rattle.mod_word.proofs.multiples.Factor.near.Goals as goal

pub returns-clause-same : goal.returns-clause-same
returns-clause-same c =
    let q = c.args.self.now.modulus in
    sym (mul-add-mod_self_right c.parted.result.0 q c.parted.result.1) ∙ ap (λ z. z % q) c.parted.ensures.whole
