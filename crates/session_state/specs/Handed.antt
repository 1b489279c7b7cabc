-- What is handed out: briefs and jobs.
use Rattle.std.specs.Prelude.{◌≡◌, ◌⊎◌, ℕ, Bool, true, false, [], map, length, slice_index_or, All, None, IsSome}
use Rattle.ring_spec.specs.Pairs.{CipherFits}
use Rattle.param_set.specs.declared.params.Params.{Params}
use Rattle.circuit_form.specs.Circuits.{first_fault, owners}
use Rattle.circuit_runner.specs.declared.job.Job.{Job}
use Rattle.proto_names.specs.Roles.{first_groups, last_place}
use Rattle.proto_names.specs.declared.instance.Instance.{Instance}
use Rattle.instance_table.specs.declared.brief.Brief.{Brief}
use Rattle.session_rules.specs.declared.reply.Reply.{Reply}
use Rattle.session_rules.specs.declared.reply.Reply.TheVariants as reply
use Rattle.session_rules.specs.States.{State}
use Rattle.session_spec.specs.Settings.{Setting, nodes_at}
use Rattle.session_spec.specs.Stores.{Store, held_polys, held_key, cipher_or}
use Rattle.session_state.specs.Parts.{AreTold}

-- the brief of an instance: what it is, the one group, and the polynomials that its parties are told
pub record IsBriefOf (p : Params) (h : Store) (i : Instance) (brief : Brief) : Type 0 where
  pub id : brief.id ≡ i.id
  pub signature : brief.signature ≡ i.signature
  pub set : brief.set ≡ i.set
  pub round1 : brief.round1 ≡ i.round1
  pub group : last_place brief.groups.value ≡ i.group
  pub groups : brief.groups.value ≡ first_groups p.threshold p.parties
  pub polys : brief.polys ≡ held_polys h i.id
  pub told : AreTold p i.signature brief.polys

-- the reply that goes with it
abbrev pub brief_reply : Brief → Reply
brief_reply brief = reply.Brief brief.signature brief.set

-- the job for a circuit: the circuit, and the ciphertexts of its inputs
pub record IsJobFor (w : Setting) (h : Store) (c : ℕ) (job : Job) : Type 0 where
  pub number : job.number ≡ c
  pub circuit : job.circuit.value ≡ nodes_at w c
  pub inputs : job.inputs ≡ map cipher_or (slice_index_or h.inputs c [])

-- it can be evaluated, once there are the keys that it needs: its circuit keeps the rules, and it has each input
pub record CanEvaluate (p : Params) (job : Job) : Type 0 where
  pub circuit : first_fault p.n p.t p.parties job.circuit.value ≡ None
  pub count : length job.inputs ≡ length (owners job.circuit.value)
  pub inputs : All (CipherFits p.q p.n) job.inputs

-- whether a reply is the one with lists
abbrev pub is_list : Reply → Bool
is_list (reply.List ids inputs) = true
is_list other = false

-- whether it is the one with a brief
abbrev pub is_brief : Reply → Bool
is_brief (reply.Brief signature set) = true
is_brief other = false

-- what is handed out at a party's asking takes memory: its lists, or a pointer to the public key
abbrev pub HandsOut : Setting → Store → State → Reply → Type 0
HandsOut w h s said = (is_list said ≡ true) ⊎ IsSome (held_key w h s.instances)
