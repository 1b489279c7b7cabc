-- Which of the instances that aren't void stay so.
use Rattle.std.specs.Prelude.{ℕ, Bool, not, nat_eq}
use Rattle.proto_names.specs.Instances.{lacks}
use Rattle.proto_names.specs.declared.instance.Instance.{Instance}

-- those of another number than that of the one that is given up
abbrev pub is_other : ℕ → Instance → Bool
is_other id i = not (nat_eq i.id id)

-- those that don't lack the share of a party that is lost
abbrev pub keeps : ℕ → Instance → Bool
keeps p i = not (lacks p i)
