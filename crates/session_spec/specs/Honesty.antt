-- Stores that go with a state, stores whose polynomials are those of honest parties, and what calls have to
-- bring so that they stay so.
use Rattle.std.specs.Prelude.{◌≡◌, ℕ, ◌<◌, true, List, map, length, Some, ⊤}
use Rattle.ring_spec.specs.Pairs.{Cipher}
use Rattle.proto_names.specs.Names.{rows_of}
use Rattle.proto_names.specs.Instances.{instance, lacks}
use Rattle.proto_names.specs.declared.instance.Instance.{Instance}
use Rattle.session_rules.specs.declared.deed.Deed.{Deed}
use Rattle.session_rules.specs.declared.deed.Deed.TheVariants.{Nothing, Joins, Loses, Counts, Gives, Turns}
use Rattle.session_rules.specs.declared.state.CircuitState.{CircuitState}
use Rattle.session_rules.specs.declared.state.CircuitState.TheVariants.{Refused, Idle, Taken, Evaluated, Answered}
use Rattle.session_rules.specs.declared.reply.Reply.TheVariants as reply
use Rattle.session_rules.specs.States.{State, circuit, is_given}
use Rattle.session_rules.specs.Steps.{input, finish}
use Rattle.session_rules.specs.Facts.{IsLive, is_settled}
use Rattle.circuit_form.specs.Circuits.{owners}
use Rattle.session_spec.specs.Settings.{Setting, Offer, rules, gadget_rows, plain_at}
use Rattle.proto_names.specs.Roles.{role_of}
use Rattle.session_spec.specs.Outputs.{key_in, keys_in, input_of, output_of, polys_of, share_of, sums_of}
use Rattle.session_spec.specs.Stores.{Store, Brought, held_polys, held_sums, held_input, held_output, held_answer}

-- ---- stores of a state

-- as many entries as there are instances, circuits and inputs
abbrev pub count_inputs : Offer → ℕ
count_inputs offer = length (owners offer.nodes)

pub record Matches (w : Setting) (s : State) (h : Store) : Type 0 where
  pub told : length h.told ≡ length s.instances
  pub sums : length h.sums ≡ length s.instances
  pub inputs : map length h.inputs ≡ map count_inputs w.offers
  pub outputs : length h.outputs ≡ length w.offers
  pub answers : length h.answers ≡ length w.offers

-- in a state the store is that of honest parties: of each instance that isn't void the polynomials that are told
-- and the sums; each input that is given; each output; each answer, which is the plain value
pub record IsHonest (w : Setting) (seeds : List (List ℕ)) (s : State) (h : Store) : Type 0 where
  pub told : (id : ℕ) (i : Instance) → instance s.instances id ≡ Some i → IsLive i → held_polys h id ≡ polys_of w seeds (keys_in w seeds s.instances) (role_of i)
  pub sums : (id : ℕ) (i : Instance) → instance s.instances id ≡ Some i → IsLive i → held_sums h id ≡ sums_of w seeds (keys_in w seeds s.instances) i
  pub inputs : (c k : ℕ) → is_given s c k ≡ true → held_input h c k ≡ Some (input_of w seeds (key_in w seeds s.instances) c k)
  pub outputs : (c : ℕ) → c < length w.offers → is_settled (circuit s.circuits c) ≡ true → held_output h c ≡ Some (output_of w seeds (keys_in w seeds s.instances c) c)
  pub answers : (c : ℕ) → c < length w.offers → circuit s.circuits c ≡ Answered → held_answer h c ≡ Some (plain_at w c)

-- ---- what calls bring

-- a share that is awaited and has as many rows as it has to have is the honest one
abbrev pub BringsShare : Setting → List (List ℕ) → State → ℕ → ℕ → List (List ℕ) → Type 0
BringsShare w seeds s id p rows =
    (i : Instance) → instance s.instances id ≡ Some i → lacks p i ≡ true → length rows ≡ rows_of i.signature (gadget_rows w)
    → rows ≡ share_of w seeds (keys_in w seeds s.instances) i p

-- an input that is then given is the encryption of its value by its owner's stream
abbrev pub BringsInput : Setting → List (List ℕ) → State → ℕ → ℕ → Cipher → Type 0
BringsInput w seeds s c k ct =
    (input (rules w) s c k).reply ≡ reply.Given → ct ≡ input_of w seeds (key_in w seeds s.instances) c k

-- an output that is taken over is the circuit's
abbrev pub BringsOutput : Setting → List (List ℕ) → State → ℕ → ℕ → Cipher → Type 0
BringsOutput w seeds s who c ct =
    (finish s who c).reply ≡ reply.Finished → ct ≡ output_of w seeds (keys_in w seeds s.instances c) c

-- what is brought to a deed is honest
abbrev pub BringsTurn : Setting → List (List ℕ) → State → ℕ → CircuitState → Cipher → Type 0
BringsTurn w seeds s c (Refused place bound limit) ct = ⊤
BringsTurn w seeds s c Idle ct = ⊤
BringsTurn w seeds s c (Taken who) ct = ⊤
BringsTurn w seeds s c Evaluated ct = ct ≡ output_of w seeds (keys_in w seeds s.instances c) c
BringsTurn w seeds s c Answered ct = ⊤

abbrev pub Brings : Setting → List (List ℕ) → State → Deed → Brought → Type 0
Brings w seeds s Nothing b = ⊤
Brings w seeds s (Joins p) b = ⊤
Brings w seeds s (Loses p) b = ⊤
Brings w seeds s (Counts i p) b = b.rows ≡ share_of w seeds (keys_in w seeds s.instances) i p
Brings w seeds s (Gives c k) b = b.cipher ≡ input_of w seeds (key_in w seeds s.instances) c k
Brings w seeds s (Turns c now) b = BringsTurn w seeds s c now b.cipher
