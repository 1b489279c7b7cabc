-- When numbers are refused.
use Rattle.std.specs.Prelude.{◌≡◌, ◌≢◌, ◌-◌, None, Some}
use Rattle.param_set.specs.Rules.{value_of, first_bad, root_power}
use Rattle.param_set.specs.declared.raw.RawParams.{RawParams}
use Rattle.param_set.specs.declared.fault.ParamFault.{ParamFault}
use Rattle.param_set.specs.declared.fault.ParamFault.TheVariants.{Bad, NoRoot}

-- Bad names the first field that breaks its rule, and its value; NoRoot comes where none does and
-- psi^n isn't -1 modulo q, and tells what it is
abbrev pub IsFaultOf : RawParams → ParamFault → Type 0
IsFaultOf raw (Bad f v) = (first_bad raw ≡ Some f) × (v ≡ value_of raw f)
IsFaultOf raw (NoRoot v) = (first_bad raw ≡ None) × (v ≡ root_power raw) × (v ≢ raw.q - 1)
