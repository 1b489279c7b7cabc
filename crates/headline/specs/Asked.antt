-- What a script's session is about, and what stands in a state of it, in the words of the headline.
use Rattle.std.specs.Prelude.{ℕ, List, [], slice_index_or}
use Rattle.ring_spec.specs.Ring.{ring_sum}
use Rattle.ring_spec.specs.Pairs.{Cipher}
use Rattle.bfv_spec.specs.Scheme.{decryption}
use Rattle.circuit_form.specs.declared.node.Node.{Node}
use Rattle.cipher_spec.specs.Keys.{Keys}
use Rattle.proto_names.specs.Roles.{role_of}
use Rattle.proto_names.specs.declared.instance.Instance.{Instance}
use Rattle.session_rules.specs.declared.call.Entry.{Entry}
use Rattle.session_rules.specs.declared.fixed.Fixed.{Fixed}
use Rattle.session_rules.specs.States.{State, threshold_at}
use Rattle.session_rules.specs.Histories.{state_after}
use Rattle.session_spec.specs.Settings.{rules, nodes_at, plain_at}
use Rattle.session_spec.specs.Shares.{full_sums}
use Rattle.session_spec.specs.Outputs.{output_of, polys_of}
use Rattle.session_script.specs.Asked.{Asked}
use Rattle.run_report.specs.Reports.{setting_asked, seeds_asked, keys_asked}

-- what the rules of the script's session look at, and the state after some calls
abbrev pub rules_asked : Asked → Fixed
rules_asked a = rules (setting_asked a)

abbrev pub state_of : Asked → List Entry → State
state_of a es = state_after (rules_asked a) es

-- the nodes of circuit c, and its plain value: the polynomial of its last node modulo t
abbrev pub nodes_asked : Asked → ℕ → List Node
nodes_asked a c = nodes_at (setting_asked a) c

abbrev pub plain : Asked → ℕ → List ℕ
plain a c = plain_at (setting_asked a) c

-- T for the group of an instance
abbrev pub threshold_of : Asked → State → Instance → ℕ
threshold_of a s i = threshold_at (rules_asked a) i.group

-- the keys of circuit c in a state, those that it needs: the public key, of which p0 is the aggregate of its complete
-- instance and p1 the common polynomial of that; the rows of the relinearisation key, of the aggregates of both rounds;
-- and those of each rotation key, of its aggregate beside the common polynomials
abbrev pub circuit_keys : Asked → State → ℕ → Keys
circuit_keys a s c = keys_asked a s c

-- the output of circuit c under these keys
abbrev pub output : Asked → State → ℕ → Cipher
output a s c = output_of (setting_asked a) (seeds_asked a) (circuit_keys a s c) c

-- the aggregate of an instance: row by row the sum modulo q of one honest share of each party j of its set P, of
-- s_j = lambda_j(P) * share_j, of the instance's common polynomials (public key, rotation, first round), the first
-- round's aggregate (second round) or c1 of the circuit's output (decryption), of j's u of the first round (both rounds),
-- and of noise from j's own stream with the instance's number
unfoldable pub aggregate : Asked → State → Instance → List (List ℕ)
aggregate a s i =
    let w = setting_asked a in
    let seeds = seeds_asked a in full_sums w seeds (role_of i) (polys_of w seeds (circuit_keys a s) (role_of i))

-- what is decrypted from the output of circuit c with the aggregate of a decryption: c0 and the aggregate's row
-- are added, and each coefficient is scaled by t / q, rounded and reduced modulo t
unfoldable pub decrypted : Asked → State → ℕ → Instance → List ℕ
decrypted a s c i =
    decryption a.numbers.q a.numbers.t (ring_sum a.numbers.q a.numbers.n (output a s c).c0 (slice_index_or (aggregate a s i) 0 []))
