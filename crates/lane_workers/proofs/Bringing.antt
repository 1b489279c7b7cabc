-- What parties bring is what the calls of a session ask for.
use Rattle.std.proofs.Common.{◌≡◌, ◌∙◌, sym, ap, subst, refl, ℕ, zero, suc, ◌<◌, true, inl, inr, List, [], length, map, get_or, slice_index_or, Option, Some, None, IsTrue, arith}
use Rattle.std.proofs.lemmas.Bool.{cases_lt}
use Rattle.std.proofs.lemmas.List.{get_or-map, get_or_past, length-map}
use Rattle.ring_spec.specs.Pairs.{Cipher}
use Rattle.draw_spec.specs.Streams.{input_stream}
use Rattle.bfv_spec.specs.Drawn.{drawn_encryption}
use Rattle.circuit_form.specs.declared.node.Node.{Node}
use Rattle.circuit_form.specs.Circuits.{owners}
use Rattle.param_set.specs.Numbers.{Numbers, numbers_of}
use Rattle.cipher_spec.specs.Keys.{no_keys}
use Rattle.cipher_spec.specs.Ciphers.{is_switch_free, output_cipher}
use Rattle.circuit_laws.proofs.SwitchFree.{keys_are_not_used}
use Rattle.std.specs.Option.{IfSome}
use Rattle.ring_spec.specs.Pairs.{Key}
use Rattle.proto_names.specs.Names.{rows_of}
use Rattle.proto_names.specs.Instances.{instance}
use Rattle.proto_names.specs.declared.signature.Signature.{Signature}
use Rattle.proto_names.specs.declared.signature.Signature.TheVariants.{Pk, Rlk1, Rlk2, Rot, Dec}
use Rattle.proto_names.specs.declared.sets.PartySet.{PartySet}
use Rattle.proto_names.specs.declared.instance.Instance.{Instance}
use Rattle.proto_names.specs.declared.instance.Stage.{Stage}
use Rattle.proto_names.specs.declared.instance.Stage.TheVariants.{Opened, Complete, Void}
use Rattle.param_set.specs.declared.params.Params.{Params}
use Rattle.share_spec.specs.Seeds.{seed_in}
use Rattle.party_roll.specs.Briefs.{is_made}
use Rattle.session_rules.specs.declared.call.Call.TheVariants as call
use Rattle.session_rules.specs.declared.reply.Reply.TheVariants as reply
use Rattle.session_rules.specs.declared.fixed.Fixed.{Fixed}
use Rattle.session_rules.specs.States.{State, plan, no_plan}
use Rattle.session_rules.specs.Steps.{judge, step, brief, told}
use Rattle.session_rules.specs.declared.fixed.Plan.{Plan}
use Rattle.session_rules.specs.Fixing.{plan_of}
use Rattle.session_rules.specs.Tasks.{briefed}
use Rattle.session_rules.specs.Facts.{IsLive}
use Rattle.session_laws.proofs.Plans.{rules_plans, rules_number}
use Rattle.session_spec.specs.Settings.{Setting, nodes_of, no_offer, nodes_at, value_at, owner_at}
use Rattle.session_spec.specs.Outputs.{key_in, keys_in, input_of, inputs_of, output_of}
use Rattle.session_spec.specs.Settings.{rules}
use Rattle.lane_workers.specs.Acting.{Owns}

-- ---- shares

-- shares that parties make have one row
pub made_rows : (σ : Signature) (l : ℕ) → IsTrue (is_made σ) → rows_of σ l ≡ 1
unfolding rows_of
made_rows Pk l h = refl
made_rows Rlk1 l h = cc
made_rows Rlk2 l h = cc
made_rows (Rot g) l h = cc
made_rows (Dec c) l h = refl

-- a brief that is told is that of an instance which isn't void
pub record IsTold (s : State) (id : ℕ) (σ : Signature) (set : PartySet) : Type 0 where
  pub item : Instance
  pub found : instance s.instances id ≡ Some item

told_by : (s : State) (id : ℕ) (o : Option Instance) (σ : Signature) (set : PartySet) → instance s.instances id ≡ o
    → elim o [ None ↦ reply.Unknown (length s.instances) | Some i ↦ told i i.stage ] ≡ reply.Brief σ set → IsTold s id σ set
told_by s id None σ set e r = cc
told_by s id (Some i) σ set e r = record { item = i; found = e }

pub is_told : (s : State) (id : ℕ) (σ : Signature) (set : PartySet) → brief s id ≡ reply.Brief σ set → IsTold s id σ set
unfolding brief
is_told s id σ set e = told_by s id (instance s.instances id) σ set refl e

-- where no brief comes there is none
void_or_not : (i : Instance) (stage : Stage) → i.stage ≡ stage → (IsLive i → ⊥) → briefed (told i stage) ≡ None
unfolding told
void_or_not i Opened e never = absurd (never (rw e refl))
void_or_not i Complete e never = absurd (never (rw e refl))
void_or_not i (Void by) e never = refl

silent_by : (s : State) (id : ℕ) (o : Option Instance) → instance s.instances id ≡ o → ((i : Instance) → instance s.instances id ≡ Some i → IsLive i → ⊥)
    → briefed (elim o [ None ↦ reply.Unknown (length s.instances) | Some i ↦ told i i.stage ]) ≡ None
silent_by s id None e never = refl
silent_by s id (Some i) e never = void_or_not i i.stage refl (never i e)

pub silent : (f : Fixed) (s : State) (id : ℕ) → ((i : Instance) → instance s.instances id ≡ Some i → IsLive i → ⊥) → briefed (step f s 0 (call.Brief id)).0 ≡ None
unfolding step judge brief
silent f s id never = silent_by s id (instance s.instances id) refl never

-- ---- outputs and inputs

pub at_some : {X : Type 0} (P : X → Type 0) (o : Option X) (x : X) → o ≡ Some x → IfSome o P → P x
at_some P None x e h = cc
at_some P (Some y) x e h = let same : y ≡ x = cc in subst P same h

-- an output that is evaluated from the inputs is the circuit's, which needs no key switch
pub output_brought : (w : Setting) (seeds : List (List ℕ)) (is : List Instance) (c : ℕ) (ct : Cipher) (inputs : List Cipher) (nodes : List Node) (p : Params) → w.numbers ≡ numbers_of p
    → is_switch_free nodes ≡ true → inputs ≡ inputs_of w seeds (key_in w seeds is) c → nodes ≡ nodes_at w c → ct ≡ output_cipher (numbers_of p) no_keys inputs nodes
    → ct ≡ output_of w seeds (keys_in w seeds is c) c
unfolding output_of keys_in
output_brought w seeds is c ct inputs nodes p numbers free its its_nodes made =
    made ∙ keys_are_not_used (numbers_of p) no_keys (keys_in w seeds is c) inputs nodes free
    ∙ rw (its, its_nodes) (ap (λ (z : Numbers). output_cipher z (keys_in w seeds is c) (inputs_of w seeds (key_in w seeds is) c) (nodes_at w c)) (sym numbers))

plan_owners : (p : Numbers) (nodes : List Node) → (plan_of p nodes).owners ≡ owners nodes
unfolding plan_of
plan_owners p nodes = refl

no_owners : (k : ℕ) → slice_index_or (owners []) k 0 ≡ 0
unfolding owners
no_owners zero = refl
no_owners (suc k) = refl

-- the owner of an input stands in the plan of its circuit
pub owner_planned : (w : Setting) (c k : ℕ) → slice_index_or (plan (rules w) c).owners k 0 ≡ owner_at w c k
owner_planned w c k = elim (cases_lt c (length w.offers)) [
  | inl less ↦
      let nodes = map nodes_of w.offers in
      let within : c < length nodes = omega (arith, length-map w.offers nodes_of) in
      let at : plan (rules w) c ≡ plan_of w.numbers (nodes_at w c) =
      ap (λ (z : List Plan). get_or z c no_plan) (rules_plans w) ∙ get_or-map (plan_of w.numbers) nodes c [] no_plan within
      ∙ ap (plan_of w.numbers) (get_or-map nodes_of w.offers c no_offer [] less) in
      ap (λ (z : Plan). slice_index_or z.owners k 0) at ∙ ap (λ (z : List ℕ). slice_index_or z k 0) (plan_owners w.numbers (nodes_at w c))
  | inr more ↦
      let at : plan (rules w) c ≡ no_plan = get_or_past (rules w).plans c no_plan (omega (arith, rules_number w)) in
      let none : nodes_at w c ≡ [] = ap nodes_of (get_or_past w.offers c no_offer more) in
      ap (λ (z : Plan). slice_index_or z.owners k 0) at ∙ sym (ap (λ (z : List Node). slice_index_or (owners z) k 0) none ∙ no_owners k)
]

-- an input that its owner encrypts under the public key is the circuit's
pub input_brought : (w : Setting) (seeds : List (List ℕ)) (is : List Instance) (key : Key) (c k number : ℕ) (ct : Cipher) (p : Params) → w.numbers ≡ numbers_of p
    → key ≡ key_in w seeds is → Owns w number c k
    → ct ≡ drawn_encryption p.q p.n p.t p.err key (value_at w c k) (seed_in seeds number) (input_stream c k) 0 → ct ≡ input_of w seeds (key_in w seeds is) c k
unfolding input_of
input_brought w seeds is key c k number ct p numbers its own made =
    let owner : number ≡ owner_at w c k = sym own.owner ∙ owner_planned w c k in
    made ∙ rw (its, owner) (ap (λ (z : Numbers). drawn_encryption z.q z.n z.t z.err (key_in w seeds is) (value_at w c k) (seed_in seeds (owner_at w c k)) (input_stream c k) 0) (sym numbers))
