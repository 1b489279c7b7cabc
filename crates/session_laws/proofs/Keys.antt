-- The keys of circuits that are ready or begun stay the same, and so do their outputs.
use Rattle.std.proofs.Common.{◌≡◌, ◌≢◌, ◌∙◌, sym, ap, subst, refl, ℕ, ◌-◌, ◌<◌, Bool, true, false, not, cond, ◌||◌, ◌⊎◌, inl, inr, List, [], ◌∷◌, length, map, get_or, slice_index_or, Contains, Option, Some, None, arith}
use Rattle.std.specs.List.{list_all}
use Rattle.std.proofs.lemmas.Bool.{both_ways, and_parts, cases_eq}
use Rattle.std.proofs.lemmas.List.Elements.{Contains-get_or}
use Rattle.ring_spec.specs.Pairs.{Key, Cipher}
use Rattle.gadget_spec.specs.Switching.{KeyRow}
use Rattle.param_set.specs.Numbers.{Numbers}
use Rattle.circuit_form.specs.declared.node.Node.{Node}
use Rattle.circuit_form.specs.declared.node.Node.TheVariants as node
use Rattle.circuit_form.specs.Values.{given_after}
use Rattle.cipher_spec.specs.Keys.{Keys, RotationKey}
use Rattle.cipher_spec.specs.Ciphers.{cipher_at, product_cipher, node_cipher, ciphers_from, output_cipher}
use Rattle.proto_names.specs.Instances.{is_done}
use Rattle.proto_names.specs.Roles.{Role, role_of}
use Rattle.proto_names.specs.declared.signature.Signature.{Signature}
use Rattle.proto_names.specs.declared.signature.Signature.TheVariants.{Pk, Rlk1, Rlk2, Rot, Dec}
use Rattle.proto_names.specs.declared.instance.Instance.{Instance}
use Rattle.session_rules.specs.States.{State, circuit, plan, is_given, has_done}
use Rattle.session_rules.specs.Steps.{is_given_input, has_turn, has_keys}
use Rattle.session_rules.specs.Facts.{Kept, IsLater, IsSameLater, is_begun}
use Rattle.session_rules.specs.Grounds.{Grounded}
use Rattle.session_rules.proofs.Contained.{find_some, find_none, none_from_find}
use Rattle.session_rules.proofs.Readiness.{all_at}
use Rattle.session_rules.proofs.Marks.{IsDone, done_is, done_from, one_number, complete_lives}
use Rattle.session_spec.specs.Settings.{Setting, rules, nodes_at, input_count}
use Rattle.session_spec.specs.Shares.{key_of, relin_rows, rotation_rows}
use Rattle.session_spec.specs.Outputs.{done_instance, key_from, key_in, relin_from, relin_in, rotation_from, rotation_in, keys_in, inputs_of, output_of, told_by, polys_of}
use Rattle.session_laws.specs.Laws.{OutputsStay}
use Rattle.session_laws.specs.Constancy.{IsSameCircuit}
use Rattle.session_laws.proofs.Plans.{plan_inputs, settled_begun}

-- ---- the complete instance of a signature

pub found_is : (σ : Signature) (is : List Instance) (i : Instance) → done_instance σ is ≡ Some i → Contains is i × IsDone σ i
unfolding done_instance
found_is σ is i e = let both = find_some (is_done σ) is i e in (both.0, done_is σ i both.1)

none_found : (σ : Signature) (is : List Instance) (i : Instance) → done_instance σ is ≡ None → Contains is i → IsDone σ i → ⊥
unfolding done_instance
none_found σ is i e m d = both_ways (is_done σ i) (find_none (is_done σ) is i e m) (done_from σ i d)

-- where one is complete it is found
pub record IsFound (σ : Signature) (is : List Instance) : Type 0 where
  pub item : Instance
  pub found : done_instance σ is ≡ Some item

found_from : (σ : Signature) (is : List Instance) (o : Option Instance) → done_instance σ is ≡ o → has_done σ is ≡ true → IsFound σ is
unfolding done_instance has_done
found_from σ is None e h = absurd (both_ways (has_done σ is) (none_from_find (is_done σ) is e) h)
found_from σ is (Some i) e h = record { item = i; found = e }

pub done_found : (σ : Signature) (is : List Instance) → has_done σ is ≡ true → IsFound σ is
done_found σ is h = found_from σ is (done_instance σ is) refl h

-- the same instance later has the same role
pub same_role : (i now : Instance) → IsSameLater i now → role_of i ≡ role_of now
same_role i now same = rw (same.id, same.signature, same.set, same.round1, same.group) refl

-- but for a first round, which may be given up, it is found later too
record StaysFound (σ : Signature) (s t : State) : Type 0 where
  before : Instance
  now : Instance
  found : done_instance σ s.instances ≡ Some before
  found_later : done_instance σ t.instances ≡ Some now
  role : role_of before ≡ role_of now

-- in a list that keeps its rules any complete instance of a signature is the one
only_one : (w : Setting) (σ : Signature) (t : State) (i : Instance) (o : Option Instance) → Kept (rules w) t → Contains t.instances i → IsDone σ i → done_instance σ t.instances ≡ o
    → done_instance σ t.instances ≡ Some i
only_one w σ t i None k m d e = absurd (none_found σ t.instances i e m d)
only_one w σ t i (Some j) k m d e =
    let both = found_is σ t.instances j e in
    let c = both.1 in
    let ids : j.id ≡ i.id = k.one j i both.0 m (c.signature ∙ sym d.signature) (complete_lives j c.complete) (complete_lives i d.complete) in
    e ∙ ap Some (one_number t.instances j i k.numbered both.0 m ids)

stays_found : (w : Setting) (s t : State) (σ : Signature) → Kept (rules w) t → IsLater s t → σ ≢ Rlk1 → has_done σ s.instances ≡ true → StaysFound σ s t
stays_found w s t σ k l other h =
    let x = done_found σ s.instances h in
    let i = x.item in
    let both = found_is σ s.instances i x.found in
    let d = both.1 in
    let place = both.0.0 in
    let below : place < length s.instances = both.0.1 in
    let longer = l.issued in
    let now = get_or t.instances place i in
    let same : IsSameLater i now = subst (λ (z : Instance). IsSameLater z now) both.0.2 (l.same place i below) in
    let done : IsDone σ now = record { signature = same.signature ∙ d.signature; complete = same.complete (λ e. other (sym d.signature ∙ e)) d.complete } in
    let there : Contains t.instances now = Contains-get_or t.instances place i (omega arith) in
    record {
      before = i;
      now = now;
      found = x.found;
      found_later = only_one w σ t now (done_instance σ t.instances) k there done refl;
      role = same_role i now same;
    }

-- ---- its key stays

pub key_at : (w : Setting) (seeds : List (List ℕ)) (is : List Instance) (i : Instance) → done_instance Pk is ≡ Some i → key_in w seeds is ≡ key_of w seeds (role_of i)
unfolding key_in
key_at w seeds is i e = ap (key_from w seeds) e

module _ (w : Setting) (seeds : List (List ℕ)) (s t : State) (k : Kept (rules w) t) (l : IsLater s t) where
  pub key_stays : has_done Pk s.instances ≡ true → key_in w seeds s.instances ≡ key_in w seeds t.instances
  key_stays h =
      let x = stays_found w s t Pk k l (λ e. cc) h in
      key_at w seeds s.instances x.before x.found ∙ ap (key_of w seeds) x.role ∙ sym (key_at w seeds t.instances x.now x.found_later)

  relin_stays : has_done Rlk2 s.instances ≡ true → relin_in w seeds s.instances ≡ relin_in w seeds t.instances
  unfolding relin_in
  relin_stays h =
      let x = stays_found w s t Rlk2 k l (λ e. cc) h in
      ap (relin_from w seeds) x.found ∙ ap (relin_rows w seeds) x.role ∙ sym (ap (relin_from w seeds) x.found_later)

  rotation_stays : (g : ℕ) → has_turn s g ≡ true → rotation_in w seeds s.instances g ≡ rotation_in w seeds t.instances g
  unfolding rotation_in
  rotation_stays g h =
      let x = stays_found w s t (Rot g) k l (λ e. cc) h in
      ap (λ (z : List KeyRow). record { g = g; rows = z }) (ap (rotation_from w seeds) x.found ∙ ap (rotation_rows w seeds) x.role ∙ sym (ap (rotation_from w seeds) x.found_later))

  rotations_stay : (turns : List ℕ) → list_all (has_turn s) turns ≡ true → map (rotation_in w seeds s.instances) turns ≡ map (rotation_in w seeds t.instances) turns
  rotations_stay [] h = refl
  rotations_stay (g ∷ turns) h =
      let both = and_parts (has_turn s g) (list_all (has_turn s) turns) h in
      rw (rotation_stays g both.0, rotations_stay turns both.1) refl

  needed_relin : (product : Bool) → (not product || has_done Rlk2 s.instances) ≡ true → cond product (relin_in w seeds s.instances) [] ≡ cond product (relin_in w seeds t.instances) []
  needed_relin true h = relin_stays h
  needed_relin false h = refl

-- ---- outputs

-- the ciphertexts of nodes have no part of the public key
no_public_part : (p : Numbers) (a b : Key) (relin : List KeyRow) (rotations : List RotationKey) (inputs : List Cipher) (nodes : List Node) (done : List Cipher) (given : ℕ) (n : Node)
    → node_cipher p (record { public = a; relin = relin; rotations = rotations }) inputs nodes done given n ≡ node_cipher p (record { public = b; relin = relin; rotations = rotations }) inputs nodes done given n
unfolding node_cipher product_cipher
no_public_part p a b relin rotations inputs nodes done given (node.Input owner) = refl
no_public_part p a b relin rotations inputs nodes done given (node.Const value) = refl
no_public_part p a b relin rotations inputs nodes done given (node.Add left right) = refl
no_public_part p a b relin rotations inputs nodes done given (node.Sub left right) = refl
no_public_part p a b relin rotations inputs nodes done given (node.Neg of) = refl
no_public_part p a b relin rotations inputs nodes done given (node.Mul left right) = refl
no_public_part p a b relin rotations inputs nodes done given (node.Rot g of) = refl

same_ciphers : (p : Numbers) (a b : Key) (relin : List KeyRow) (rotations : List RotationKey) (inputs : List Cipher) (nodes rest : List Node) (done : List Cipher) (given : ℕ)
    → ciphers_from p (record { public = a; relin = relin; rotations = rotations }) inputs nodes done given rest ≡ ciphers_from p (record { public = b; relin = relin; rotations = rotations }) inputs nodes done given rest
unfolding ciphers_from
same_ciphers p a b relin rotations inputs nodes [] done given = refl
same_ciphers p a b relin rotations inputs nodes (n ∷ rest) done given =
    rw (no_public_part p a b relin rotations inputs nodes done given n)
    (same_ciphers p a b relin rotations inputs nodes rest _ (given_after given n))

same_output : (w : Setting) (seeds : List (List ℕ)) (a b : Keys) (c : ℕ) → inputs_of w seeds a.public c ≡ inputs_of w seeds b.public c → a.relin ≡ b.relin → a.rotations ≡ b.rotations
    → output_of w seeds a c ≡ output_of w seeds b c
unfolding output_of output_cipher
same_output w seeds a b c inputs relin rotations =
    let p = w.numbers in
    let nodes = nodes_at w c in
    let given = inputs_of w seeds b.public c in
    ap (λ (z : List Cipher). output_cipher p a z nodes) inputs
    ∙ ap (λ (z : List Cipher). cipher_at z (length nodes - 1)) (same_ciphers p a.public b.public a.relin a.rotations given nodes nodes [] 0)
    ∙ ap (λ (z : List KeyRow). output_cipher p (record { public = b.public; relin = z; rotations = a.rotations }) given nodes) relin
    ∙ ap (λ (z : List RotationKey). output_cipher p (record { public = b.public; relin = b.relin; rotations = z }) given nodes) rotations

-- one without inputs has the same under every key
no_inputs : (w : Setting) (seeds : List (List ℕ)) (key other : Key) (c : ℕ) → input_count w c ≡ 0 → inputs_of w seeds key c ≡ inputs_of w seeds other c
no_inputs w seeds key other c e = rw e refl

-- a circuit that has its keys has the same ones later, and the same output
pub circuit_stays : (w : Setting) (seeds : List (List ℕ)) (s t : State) (c : ℕ) → Kept (rules w) t → IsLater s t → (input_count w c ≡ 0) ⊎ (has_done Pk s.instances ≡ true) → has_keys s (plan (rules w) c) ≡ true
    → IsSameCircuit w seeds (keys_in w seeds s.instances c) (keys_in w seeds t.instances c) c
unfolding keys_in has_keys
circuit_stays w seeds s t c k l key keys =
    let x = plan (rules w) c in
    let both = and_parts (not x.product || has_done Rlk2 s.instances) (list_all (has_turn s) x.turns) keys in
    let inputs : inputs_of w seeds (key_in w seeds s.instances) c ≡ inputs_of w seeds (key_in w seeds t.instances) c = elim key [
      | inl none ↦ no_inputs w seeds (key_in w seeds s.instances) (key_in w seeds t.instances) c none
      | inr done ↦ ap (λ (z : Key). inputs_of w seeds z c) (key_stays w seeds s t k l done)
    ] in
    let relin = needed_relin w seeds s t k l x.product both.0 in
    let rotations = rotations_stay w seeds s t k l x.turns both.1 in
    record {
      inputs = inputs;
      relin = relin;
      rotations = rotations;
      output = same_output w seeds (keys_in w seeds s.instances c) (keys_in w seeds t.instances c) c inputs relin rotations;
    }

-- what a state has of keys: where an input is given, and where a circuit is begun
pub record Keyed (w : Setting) (s : State) : Type 0 where
  pub given : (c k : ℕ) → is_given s c k ≡ true → has_done Pk s.instances ≡ true
  pub begun : (c : ℕ) → is_begun (circuit s.circuits c) ≡ true → (input_count w c ≡ 0) ⊎ (has_done Pk s.instances ≡ true)
  pub keys : (c : ℕ) → is_begun (circuit s.circuits c) ≡ true → has_keys s (plan (rules w) c) ≡ true

-- where all inputs of a circuit are given, it has none or there is a key
pub given_keyed : (w : Setting) (s : State) (c : ℕ) → Grounded (rules w) s → list_all is_given_input (slice_index_or s.given c []) ≡ true → (input_count w c ≡ 0) ⊎ (has_done Pk s.instances ≡ true)
given_keyed w s c g all = elim (cases_eq (input_count w c) 0) [
  | inl none ↦ inl none
  | inr some ↦
      let number : length (slice_index_or s.given c []) ≡ input_count w c = g.rows c ∙ plan_inputs w c in
      inr (g.key c 0 (all_at (slice_index_or s.given c []) 0 all (omega arith)))
]

pub keyed : (w : Setting) (s : State) → Grounded (rules w) s → Keyed w s
keyed w s g = record { given = g.key; begun = λ c e. given_keyed w s c g (g.inputs c e); keys = g.keys }

pub output_stays : (w : Setting) (seeds : List (List ℕ)) (s t : State) (c : ℕ) → Keyed w s → Kept (rules w) t → IsLater s t
    → is_begun (circuit s.circuits c) ≡ true → output_of w seeds (keys_in w seeds s.instances c) c ≡ output_of w seeds (keys_in w seeds t.instances c) c
output_stays w seeds s t c y k l e = (circuit_stays w seeds s t c k l (y.begun c e) (y.keys c e)).output

pub outputs_stay : OutputsStay
outputs_stay w seeds s t c before g k l e = output_stays w seeds s t c (keyed w s g) k l e

-- ---- what the parties of an instance are told, also where it is void

dec_begun : (w : Setting) (s : State) (i : Instance) (c : ℕ) → Kept (rules w) s → Contains s.instances i → i.signature ≡ Dec c → is_begun (circuit s.circuits c) ≡ true
dec_begun w s i c k m e = settled_begun (circuit s.circuits c) ((k.decrypts i m).settled c e)

told_stays : (w : Setting) (seeds : List (List ℕ)) (keys other : ℕ → Keys) (σ : Signature) (role : Role) → ((c : ℕ) → σ ≡ Dec c → output_of w seeds (keys c) c ≡ output_of w seeds (other c) c)
    → told_by w seeds keys σ role ≡ told_by w seeds other σ role
unfolding told_by
told_stays w seeds keys other Pk role h = refl
told_stays w seeds keys other Rlk1 role h = refl
told_stays w seeds keys other Rlk2 role h = refl
told_stays w seeds keys other (Rot g) role h = refl
told_stays w seeds keys other (Dec c) role h = ap (λ (z : Cipher). z.c1 ∷ []) (h c refl)

pub polys_stay : (w : Setting) (seeds : List (List ℕ)) (s t : State) (i : Instance) → Kept (rules w) s → Keyed w s → Kept (rules w) t → IsLater s t → Contains s.instances i
    → polys_of w seeds (keys_in w seeds s.instances) (role_of i) ≡ polys_of w seeds (keys_in w seeds t.instances) (role_of i)
polys_stay w seeds s t i before y k l m =
    told_stays w seeds (keys_in w seeds s.instances) (keys_in w seeds t.instances) i.signature (role_of i) (λ c e. output_stays w seeds s t c y k l (dec_begun w s i c before m e))
