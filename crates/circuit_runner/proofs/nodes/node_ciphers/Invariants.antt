-- The nodes passed have their ciphertexts, and what follows from these and the nodes that are left is the
-- ciphertexts of all.
use Rattle.std.proofs.Common.{◌≡◌, ◌+◌, ◌≤◌, [], length, drop}
use Rattle.std.specs.Prelude.{All}
use Rattle.ring_spec.specs.Pairs.{CipherFits}
use Rattle.circuit_form.specs.Circuits.{owners}
use Rattle.param_set.specs.Numbers.{numbers_of}
use Rattle.cipher_spec.specs.Keys.{no_keys}
use Rattle.cipher_spec.specs.Ciphers.{ciphers_from}
use Rattle.circuit_runner.proofs.nodes.node_ciphers.Given as goal

abbrev pub invariant-nodes : goal.invariant-nodes
invariant-nodes l = record {
  count : length l.done.items ≡ l.k;
  passed : l.given ≤ l.k;
  enough : l.given + length (owners (drop l.k l.circuit)) ≡ length l.inputs;
  fit : All (CipherFits l.ring.params.q l.ring.params.n) l.done.items;
  whole : ciphers_from (numbers_of l.ring.params) no_keys l.inputs l.circuit l.done.items l.given (drop l.k l.circuit) ≡ ciphers_from (numbers_of l.ring.params) no_keys l.inputs l.circuit [] 0 l.circuit;
}
