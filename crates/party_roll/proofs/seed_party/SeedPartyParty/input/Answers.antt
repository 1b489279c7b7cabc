-- The value that is found is one of the party's, which are plaintexts.
use Rattle.std.proofs.Common.{sym, subst}
use Rattle.param_set.specs.declared.params.Params.{Params}
use Rattle.ring_spec.specs.Ring.{IsPoly}
use Rattle.party_roll.proofs.Placing.{value_in_plain}
use Rattle.party_roll.proofs.seed_party.SeedPartyParty.input.Goals as goal

pub encrypt-requires-clause-plain : goal.encrypt-requires-clause-plain
encrypt-requires-clause-plain c =
    let plain : IsPoly c.args.self.now.params.t c.args.self.now.params.n c.at-value.result.now =
    value_in_plain _ _ c.args.self.now.values c.args.circuit c.args.input c.at-value.result.now c.args.self.now.plain (sym c.at-value.ensures) in
    subst (λ (p : Params). IsPoly p.t p.n c.at-value.result.now) c.requires.ring plain
