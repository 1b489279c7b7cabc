-- What a session hands out, and what its readers tell.
use Rattle.std.specs.Prelude.{◌≡◌, ℕ, ◌<◌, List, length, true, Some, None, IfSome, IsTrue}
use Rattle.ring_spec.specs.Pairs.{Cipher, KeyFits}
use Rattle.proto_names.specs.Instances.{instance}
use Rattle.proto_names.specs.declared.instance.Instance.{Instance}
use Rattle.cipher_spec.specs.Ciphers.{is_switch_free}
use Rattle.instance_table.specs.Tables.{role_told}
use Rattle.party_roll.specs.Briefs.{IsBrief}
use Rattle.session_rules.specs.declared.reply.Reply.{Reply}
use Rattle.session_rules.specs.declared.reply.Reply.TheVariants as reply
use Rattle.session_rules.specs.declared.state.CircuitState.TheVariants.{Answered}
use Rattle.session_rules.specs.States.{State, circuit}
use Rattle.session_rules.specs.Facts.{IsLive, is_settled}
use Rattle.session_spec.specs.Settings.{plain_at}
use Rattle.session_spec.specs.Outputs.{key_in, keys_in, polys_of, inputs_of, output_of, sums_of}
use Rattle.session_spec.specs.Stores.{Store, held_key}
use Rattle.session_state.specs.declared.handed.Briefing.{Briefing}
use Rattle.session_state.specs.declared.handed.Listing.{Listing}
use Rattle.session_state.specs.declared.handed.Taking.{Taking}
use Rattle.session_state.specs.Shared.{shared_if}
use Rattle.session_state.specs.Handed.{IsBriefOf, IsJobFor, CanEvaluate, HandsOut, brief_reply}
use Rattle.session_core.specs.Sessions.{Known}

-- the key that is made of the sums of a complete instance, where there is one: it fits whatever the shares were,
-- and is the public key where the seeds are told
pub record HandsKey (k : Known) (s : State) (h : Store) (handed : Listing) : Type 0 where
  pub held : shared_if handed.key ≡ held_key k.setting h s.instances
  pub fits : IfSome handed.key (λ a. KeyFits k.params.q k.params.n a.value)
  pub honest : k.tells ≡ true → IfSome handed.key (λ a. a.value ≡ key_in k.setting k.seeds s.instances)

-- where there are lists to be handed out, or a key
abbrev pub ListsOrKey : Known → State → Store → Reply → Type 0
ListsOrKey k s h said = HandsOut k.setting h s said

-- the brief of an instance, exactly where that is issued and not void, with the reply that goes with it: a party
-- can make its share from it, and what it tells is honest where the seeds are told
pub record HandsBrief (id : ℕ) (k : Known) (s : State) (h : Store) (handed : Briefing) : Type 0 where
  pub told : IfSome handed.brief (λ a. (i : Instance) → instance s.instances id ≡ Some i → IsBriefOf k.params h i a.value)
  pub there : (i : Instance) → instance s.instances id ≡ Some i → IsLive i → handed.brief ≡ None → ⊥
  pub goes : IfSome handed.brief (λ a. handed.reply ≡ brief_reply a.value)
  pub made : IfSome handed.brief (λ a. IsBrief k.params a.value)
  pub honest : k.tells ≡ true
      → IfSome handed.brief (λ a. a.value.polys
      ≡ polys_of k.setting k.seeds (keys_in k.setting k.seeds s.instances) (role_told a))

-- the job for the circuit that the reply names, and none with Nothing: it can be evaluated, without a key switch, and
-- its inputs are the encryptions of their values where the seeds are told
pub record HandsJob (k : Known) (s : State) (h : Store) (handed : Taking) : Type 0 where
  pub job : IfSome handed.job (λ j. handed.reply ≡ reply.Job j.number)
  pub none : handed.job ≡ None → handed.reply ≡ reply.Nothing
  pub circuit : IfSome handed.job (λ j. IsJobFor k.setting h j.number j)
  pub ready : IfSome handed.job (λ j. CanEvaluate k.params j)
  pub free : IfSome handed.job (λ j. is_switch_free j.circuit.value ≡ true)
  pub honest : k.tells ≡ true
      → IfSome handed.job (λ j. j.inputs ≡ inputs_of k.setting k.seeds (key_in k.setting k.seeds s.instances) j.number)

-- ---- readers

-- a circuit is evaluated or answered; and it is answered
abbrev pub IsSettledAt : State → ℕ → Type 0
IsSettledAt s c = (c < length s.circuits) × IsTrue (is_settled (circuit s.circuits c))

abbrev pub IsAnsweredAt : State → ℕ → Type 0
IsAnsweredAt s c = (c < length s.circuits) × (circuit s.circuits c ≡ Answered)

-- where the seeds are told, the sums of an instance are of one honest share of each party that has sent; the
-- output of a circuit is the ciphertext that its nodes make of the encryptions of its values; its answer is its
-- plain value
abbrev pub AreHonestSums : ℕ → Known → State → Store → List (List ℕ) → Type 0
AreHonestSums id k s h sums =
    k.tells ≡ true → (i : Instance) → instance s.instances id ≡ Some i
    → sums ≡ sums_of k.setting k.seeds (keys_in k.setting k.seeds s.instances) i

abbrev pub IsHonestOutput : ℕ → Known → State → Store → Cipher → Type 0
IsHonestOutput c k s h output =
    k.tells ≡ true → output ≡ output_of k.setting k.seeds (keys_in k.setting k.seeds s.instances c) c

abbrev pub IsPlainAnswer : ℕ → Known → State → Store → List ℕ → Type 0
IsPlainAnswer c k s h answer = k.tells ≡ true → answer ≡ plain_at k.setting c
