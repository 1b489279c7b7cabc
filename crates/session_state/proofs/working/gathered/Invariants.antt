use Rattle.std.proofs.Common.{◌≡◌, map, take}
use Rattle.session_spec.specs.Stores.{cipher_or}
use Rattle.session_state.specs.Parts.{ciphers_in}
use Rattle.session_state.proofs.working.gathered.Given as goal

abbrev pub invariant-places : goal.invariant-places
invariant-places l = l.inputs ≡ map cipher_or (ciphers_in (take l.place l.fn.places))
