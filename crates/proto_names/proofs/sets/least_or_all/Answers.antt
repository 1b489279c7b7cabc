-- Where there are no k members, all of them are the k least.
use Rattle.std.proofs.Common.{length, inl, inr, arith}
use Rattle.std.proofs.lemmas.Bool.{cases_lt}
use Rattle.share_spec.specs.Sets.{members}
use Rattle.proto_names.proofs.Bits.{least_of-all}
use Rattle.proto_names.proofs.sets.least_or_all.Goals as goal

pub returns-in-None : goal.returns-in-None
returns-in-None c =
    let bits = c.args.bits in
    elim (cases_lt (length (members bits)) c.args.k) [
      | inl fewer ↦ least_of-all c.args.k bits (omega arith) (omega arith)
      | inr more ↦ let e = c.in-None.ensures.enough.1 (omega arith) in cc
    ]
