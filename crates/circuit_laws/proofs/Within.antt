-- Each node of a circuit carries its plain value within its bound.
use Rattle.std.proofs.Common.{◌≡◌, ℕ, ◌-◌, List, [], length, refl, inl, inr, arith}
use Rattle.std.specs.Prelude.{None}
use Rattle.std.proofs.lemmas.Bool.{cases_lt}
use Rattle.std.proofs.lemmas.List.{get_or_past}
use Rattle.std.proofs.lemmas.List.Elements.{All-get_or}
use Rattle.ring_spec.specs.Ring.{IsPoly}
use Rattle.ring_spec.specs.Pairs.{Cipher}
use Rattle.param_set.specs.declared.params.Params.{Params}
use Rattle.circuit_form.specs.declared.node.Node.{Node}
use Rattle.circuit_form.specs.Circuits.{first_fault}
use Rattle.circuit_form.specs.Values.{plain_value, values_from}
use Rattle.circuit_form.proofs.Standing.{is_circuit}
use Rattle.param_set.specs.Numbers.{numbers_of}
use Rattle.noise_ledger.specs.Bounds.{numbers_for, limit}
use Rattle.noise_ledger.specs.Ledger.{AtMost, node_bounds, place_bound, bounds_from}
use Rattle.noise_ledger.proofs.Admitted.{is_admitted}
use Rattle.cipher_spec.specs.Keys.{Keys}
use Rattle.cipher_spec.specs.Ciphers.{ciphers_from, output_cipher}
use Rattle.circuit_laws.specs.Switches.{AreKeysFor}
use Rattle.circuit_laws.specs.Carrying.{AreInputs}
use Rattle.circuit_laws.specs.Nodes.{node_ciphers, node_values, NodesCarry, OutputsKeepTheBound, AdmittedOnesKeepTheLimit}
use Rattle.circuit_laws.proofs.Walks.{Walked, walks, walked_none}

-- the walk over all nodes
walked_all : (p : Params) (threshold : ℕ) (keys : Keys) (s : List ℕ) (nodes : List Node) (values : List (List ℕ)) (inputs : List Cipher) →
    first_fault p.n p.t p.parties nodes ≡ None → AreKeysFor p threshold s nodes keys → IsPoly p.q p.n s → AreInputs p threshold s nodes values inputs →
    Walked p threshold s nodes (length nodes) (bounds_from (numbers_for p threshold) nodes [] nodes) (ciphers_from (numbers_of p) keys inputs nodes [] 0 nodes) (values_from p.n p.t values [] 0 nodes)
walked_all p threshold keys s nodes values inputs legal owned secret ready =
    walks p threshold keys s nodes values inputs [] nodes 0 [] [] [] (omega (arith, p.modulus)) (omega (arith, p.plain_modulus)) legal owned secret ready refl (omega arith) (walked_none p threshold s nodes)

pub nodes_carry : NodesCarry
unfolding node_ciphers node_values node_bounds place_bound
nodes_carry p threshold keys s nodes values inputs k legal keeps owned secret ready l =
    let here = (walked_all p threshold keys s nodes values inputs legal owned secret ready).each k l keeps in
    record { carries = here.carries; plain = here.plain; fits = here.fits }

pub outputs_keep_the_bound : OutputsKeepTheBound
unfolding output_cipher plain_value node_bounds place_bound
outputs_keep_the_bound p threshold keys s nodes values inputs legal keeps owned secret ready =
    let here = (walked_all p threshold keys s nodes values inputs legal owned secret ready).each (length nodes - 1) (omega (arith, (is_circuit p.n p.t p.parties nodes legal).some)) keeps in
    record { carries = here.carries; plain = here.plain; fits = here.fits }

pub admitted_ones_keep_the_limit : AdmittedOnesKeepTheLimit
unfolding place_bound node_bounds
admitted_ones_keep_the_limit p threshold nodes admitted =
    let numbers = numbers_for p threshold in
    let all = is_admitted numbers nodes admitted in (
      λ k. elim (cases_lt k (length (node_bounds numbers nodes))) [
        | inl less ↦ All-get_or (AtMost (limit numbers)) (node_bounds numbers nodes) k 0 less all.nodes_within
        | inr more ↦ rw (get_or_past (node_bounds numbers nodes) k 0 more) (omega arith)
      ],
      all.output_within,
    )
