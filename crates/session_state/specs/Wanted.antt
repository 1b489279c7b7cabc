-- A share that is counted.
use Rattle.std.specs.Prelude.{◌≡◌, ℕ, true, false, Some}
use Rattle.share_spec.specs.Sets.{has}
use Rattle.proto_names.specs.Names.{rows_of}
use Rattle.proto_names.specs.Instances.{instance}
use Rattle.proto_names.specs.declared.instance.Instance.{Instance}
use Rattle.proto_names.specs.declared.instance.Stage.TheVariants.{Opened}
use Rattle.session_rules.specs.declared.fixed.Fixed.{Fixed}
use Rattle.session_rules.specs.States.{State}

-- the share of party p for the instance with a number: it is opened and lacks that share, which has its rows
pub record IsWanted (f : Fixed) (s : State) (id p rows : ℕ) (i : Instance) : Type 0 where
  pub issued : instance s.instances id ≡ Some i
  pub number : i.id ≡ id
  pub opened : i.stage ≡ Opened
  pub member : has i.set.bits p ≡ true
  pub unsent : has i.sent.bits p ≡ false
  pub shape : rows_of i.signature f.rows ≡ rows
