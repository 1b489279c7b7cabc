-- The numbers of a session as one record, for definitions that rest on them.
use Rattle.std.specs.Prelude.{ℕ, Bool, false}
use Rattle.param_set.specs.declared.params.Params.{Params}
use Rattle.param_set.specs.declared.raw.RawParams.{RawParams}

-- n, q, t, b, whether digits are balanced, B, D_f, N and T, in this order
pub record Numbers : Type 0 where
  pub n : ℕ
  pub q : ℕ
  pub t : ℕ
  pub digit_bits : ℕ
  pub balanced : Bool
  pub err : ℕ
  pub flood : ℕ
  pub parties : ℕ
  pub threshold : ℕ

-- those of checked parameters
abbrev pub numbers_of : Params → Numbers
numbers_of p = record {
  n = p.n;
  q = p.q;
  t = p.t;
  digit_bits = p.digit_bits;
  balanced = p.balanced;
  err = p.err;
  flood = p.flood;
  parties = p.parties;
  threshold = p.threshold;
}

-- those that given numbers stand for: digits aren't balanced
abbrev pub numbers_given : RawParams → Numbers
numbers_given raw = record {
  n = raw.n;
  q = raw.q;
  t = raw.t;
  digit_bits = raw.digit_bits;
  balanced = false;
  err = raw.err;
  flood = raw.flood;
  parties = raw.parties;
  threshold = raw.threshold;
}
