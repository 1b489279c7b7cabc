-- The briefs from which parties make shares.
use Rattle.std.specs.Prelude.{◌≡◌, Bool, true, false, length, All, IsTrue}
use Rattle.param_set.specs.Moduli.{digit_rows}
use Rattle.ring_spec.specs.Ring.{IsPoly}
use Rattle.param_set.specs.declared.params.Params.{Params}
use Rattle.proto_names.specs.Names.{polys_of_brief}
use Rattle.proto_names.specs.declared.signature.Signature.{Signature}
use Rattle.proto_names.specs.declared.signature.Signature.TheVariants.{Pk, Rlk1, Rlk2, Rot, Dec}
use Rattle.instance_table.specs.declared.brief.Brief.{Brief}

-- the signatures of which parties make shares: public keys and decryptions
abbrev pub is_made : Signature → Bool
is_made Pk = true
is_made Rlk1 = false
is_made Rlk2 = false
is_made (Rot g) = false
is_made (Dec circuit) = true

-- a brief of such a signature, with the polynomials that its shares are made from
pub record IsBrief (p : Params) (brief : Brief) : Type 0 where
  pub made : IsTrue (is_made brief.signature)
  pub number : length brief.polys ≡ polys_of_brief brief.signature (digit_rows p.q p.digit_bits)
  pub fit : All (IsPoly p.q p.n) brief.polys
