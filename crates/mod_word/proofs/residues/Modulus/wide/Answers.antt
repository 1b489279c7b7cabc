-- A number is its low word times 1 and its high word times 2^64.
use Rattle.std.proofs.Common.{◌≡◌, ℕ, ◌∙◌, ◌*◌, ◌%◌, subst}
use Rattle.mod_word.proofs.Halves.{wide_is}
use Rattle.mod_word.proofs.residues.Modulus.wide.Goals as goal

pub returns : goal.returns
returns c =
    let m = c.args.self.now in
    let low = subst (λ (z : ℕ). c.near.result % z ≡ m.unit.residue * c.args.low % z) m.unit_is.0 c.near.ensures.same in
    let high = subst (λ (z : ℕ). c.near-2.result % z ≡ m.carry.residue * c.args.high % z) m.carry_is.0 c.near-2.ensures.same in
    c.lowered.ensures ∙ c.halved.ensures.same
    ∙ wide_is m.q m.unit.residue m.carry.residue c.args.low c.args.high c.near.result c.near-2.result m.unit_is.1 m.carry_is.1 low high
