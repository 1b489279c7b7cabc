-- What stands behind shared pointers.
use Rattle.std.specs.Prelude.{Option}
use Rattle.std.specs.Option.{option_map}
use Rattle.std.specs.declared.alloc.Global.{Global}
use Rattle.std.specs.declared.sync.Arc.{Arc}

-- the value of a shared pointer, and of one that may be there
abbrev pub shared : {X : Type 0} → Arc X Global → X
shared pointer = pointer.value

abbrev pub shared_if : {X : Type 0} → Option (Arc X Global) → Option X
shared_if pointer = option_map shared pointer
