-- When tables are refused.
use Rattle.std.specs.Prelude.{◌≡◌, ◌≢◌, ℕ, ◌-◌, ◌%◌, ◌^◌}
use Rattle.ring_ntt.specs.declared.fault.NttFault.{NttFault}
use Rattle.ring_ntt.specs.declared.fault.NttFault.TheVariants.{NoRoot, NoMemory}

-- psi is refused where psi^n isn't -1 modulo q, and the fault tells what it is; memory is asked for
-- only where psi^n is -1
abbrev pub IsFaultOf : ℕ → ℕ → ℕ → NttFault → Type 0
IsFaultOf q n psi (NoRoot v) = (v ≡ psi ^ n % q) × (v ≢ q - 1)
IsFaultOf q n psi NoMemory = psi ^ n % q ≡ q - 1
