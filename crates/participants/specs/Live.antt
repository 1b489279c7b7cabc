-- Instances that aren't void: all that the rules of issue look at.
use Rattle.std.specs.Prelude.{Bool, not, List, filter}
use Rattle.proto_names.specs.Names.{is_void}
use Rattle.proto_names.specs.declared.instance.Instance.{Instance}

abbrev pub is_live : Instance → Bool
is_live i = not (is_void i.stage)

unfoldable pub live_ones : List Instance → List Instance
live_ones is = filter is_live is
