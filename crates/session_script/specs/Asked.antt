-- What a script asks for: numbers, names, circuits with the values of their inputs, and lanes.
use Rattle.std.specs.Prelude.{ℕ, ◌==◌, Bool, List}
use Rattle.param_set.specs.declared.params.Params.{Params}
use Rattle.param_set.specs.declared.raw.RawParams.{RawParams}
use Rattle.param_set.specs.Rules.{root_of}
use Rattle.circuit_form.specs.declared.node.Node.{Node}
use Rattle.session_rules.specs.declared.line.Line.{Line}

-- the numbers of a session, with the root psi
pub record Numbers : Type 0 where
  pub n : ℕ
  pub q : ℕ
  pub t : ℕ
  pub digit_bits : ℕ
  pub balanced : Bool
  pub err : ℕ
  pub flood : ℕ
  pub parties : ℕ
  pub threshold : ℕ
  pub psi : ℕ

-- those of checked parameters
abbrev pub numbers_of : Params → Numbers
numbers_of params = record {
  n = params.n;
  q = params.q;
  t = params.t;
  digit_bits = params.digit_bits;
  balanced = params.balanced;
  err = params.err;
  flood = params.flood;
  parties = params.parties;
  threshold = params.threshold;
  psi = params.psi;
}

-- those that given numbers stand for in a version: digits are balanced in version 2 alone
abbrev pub numbers_given : ℕ → RawParams → Numbers
numbers_given version raw = record {
  n = raw.n;
  q = raw.q;
  t = raw.t;
  digit_bits = raw.digit_bits;
  balanced = version == 2;
  err = raw.err;
  flood = raw.flood;
  parties = raw.parties;
  threshold = raw.threshold;
  psi = root_of raw;
}

-- a circuit under its name, with the values of its inputs in the order of their nodes
pub record Named : Type 0 where
  pub name : List ℕ
  pub nodes : List Node
  pub values : List (List ℕ)

-- a whole script; the lanes of the workers stand behind the written ones
pub record Asked : Type 0 where
  pub version : ℕ
  pub numbers : Numbers
  pub master : List ℕ
  pub present : List ℕ
  pub circuits : List Named
  pub lanes : List (List Line)
