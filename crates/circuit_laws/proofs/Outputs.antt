-- The output of an admitted circuit carries its plain value.
use Rattle.std.proofs.Common.{◌-◌, length}
use Rattle.circuit_form.specs.Values.{plain_value}
use Rattle.noise_ledger.specs.Bounds.{numbers_for, output_bound}
use Rattle.noise_ledger.specs.Ledger.{bound_at, node_bounds, place_bound}
use Rattle.cipher_spec.specs.Ciphers.{output_cipher}
use Rattle.circuit_laws.specs.Carrying.{OutputsCarry}
use Rattle.circuit_laws.proofs.Within.{outputs_keep_the_bound, admitted_ones_keep_the_limit}

pub outputs_carry : OutputsCarry
unfolding output_cipher plain_value place_bound output_bound
outputs_carry p threshold keys s nodes values inputs legal admitted owned secret ready =
    let last = length nodes - 1 in
    let all = admitted_ones_keep_the_limit p threshold nodes admitted in
    let here = outputs_keep_the_bound p threshold keys s nodes values inputs legal (λ some j l. all.0 j) owned secret ready in
    record {
      noise = bound_at (node_bounds (numbers_for p threshold) nodes) last;
      within = all.1;
      carries = here.carries;
      plain = here.plain;
      fits = here.fits;
    }
