-- A circuit that has its keys in a state has keys for it.
use Rattle.std.proofs.Common.{◌≡◌, ◌∙◌, sym, ap, subst, refl, ℕ, ◌*◌, ◌%◌, ◌<◌, Bool, true, false, not, cond, ◌&&◌, ◌||◌, ◌⊎◌, inl, inr, List, [], ◌∷◌, length, map, Contains, arith}
use Rattle.std.specs.Prelude.{Some, None, nat_eq, nat_le, nat_lt}
use Rattle.std.specs.List.{list_all, range_with_len, find}
use Rattle.std.proofs.lemmas.Bool.{and_parts, both_ways, cases_Bool, eqb-true, eq-eqb, ltb-true}
use Rattle.std.proofs.lemmas.Option.{slice_get-get_or}
use Rattle.ring_spec.specs.Ring.{ring_product, ring_turned}
use Rattle.param_set.specs.declared.params.Params.{Params}
use Rattle.param_set.specs.Numbers.{Numbers, numbers_of}
use Rattle.circuit_form.specs.declared.node.Node.{Node}
use Rattle.circuit_form.specs.declared.node.Node.TheVariants.{Input, Const, Add, Sub, Neg, Mul, Rot}
use Rattle.circuit_form.specs.Circuits.{may_stand, first_fault, is_turn, has_product, has_rot}
use Rattle.circuit_form.proofs.Standing.{each_stands}
use Rattle.noise_ledger.specs.Bounds.{numbers_for, rotation_noise, relin_noise}
use Rattle.cipher_spec.specs.Keys.{is_for, rows_or_none}
use Rattle.cipher_spec.specs.Keys.{rotation_rows as rows_for}
use Rattle.share_spec.specs.Seeds.{secret}
use Rattle.share_laws.proofs.Seeds.{secret_small}
use Rattle.circuit_laws.specs.Switches.{IsKeyUnder}
use Rattle.proto_names.specs.Roles.{role_of}
use Rattle.proto_names.specs.declared.signature.Signature.TheVariants.{Pk, Rlk2}
use Rattle.proto_names.specs.declared.signature.Signature.TheVariants.{Rot as Turns}
use Rattle.proto_names.specs.declared.instance.Instance.{Instance}
use Rattle.session_rules.specs.declared.fixed.Plan.{Plan}
use Rattle.session_rules.specs.States.{State, plan, has_done}
use Rattle.session_rules.specs.Steps.{has_turn, has_keys}
use Rattle.session_rules.specs.Facts.{Kept, IsSound}
use Rattle.session_rules.specs.Fixing.{plan_of, rotates}
use Rattle.session_rules.proofs.Contained.{contains_nil, contains_cases, contains_filter, contains_range, any_true}
use Rattle.session_spec.specs.Settings.{Setting, Keeps, IsSetting, rules, nodes_at, no_offer, input_count}
use Rattle.session_spec.specs.Outputs.{relin_from, relin_in, rotation_from, rotation_in, keys_in}
use Rattle.session_laws.specs.Laws.{ActsWithin, Serves}
use Rattle.session_laws.proofs.Admissions.{acts_by_rules, plan_at}
use Rattle.session_laws.proofs.Keys.{found_is, done_found, key_at, keyed}
use Rattle.answer_laws.specs.SwitchKeys.{HeldKeysServe}
use Rattle.answer_laws.specs.ByKeys.{BegunOnesHaveKeys}
use Rattle.answer_laws.proofs.SwitchKeys.{rotation_keys_belong, relin_keys_belong}

-- ---- rotations of a circuit

-- a rotation that may stand is below 2n
turn_below : (n t parties k g : ℕ) (node : Node) → is_turn g node ≡ true → may_stand n t parties k node ≡ true → g < 2 * n
unfolding may_stand
turn_below n t parties k g (Input owner) turns stands = cc
turn_below n t parties k g (Const value) turns stands = cc
turn_below n t parties k g (Add left right) turns stands = cc
turn_below n t parties k g (Sub left right) turns stands = cc
turn_below n t parties k g (Neg of) turns stands = cc
turn_below n t parties k g (Mul left right) turns stands = cc
turn_below n t parties k g (Rot h of) turns stands =
    let place = and_parts (nat_eq (h % 2) 1 && nat_le 3 h && nat_lt h (2 * n)) (nat_lt of k) stands in
    let most = and_parts (nat_eq (h % 2) 1 && nat_le 3 h) (nat_lt h (2 * n)) place.0 in
    omega (arith, ltb-true h (2 * n) most.1, eqb-true h g turns)

-- so the plan of a circuit has each of its rotations
planned : (p : Params) (nodes : List Node) (g : ℕ) → first_fault p.n p.t p.parties nodes ≡ None → has_rot g nodes ≡ true → Contains (plan_of (numbers_of p) nodes).turns g
unfolding plan_of
planned p nodes g legal some =
    let x = any_true (is_turn g) nodes some in
    let k = x.within.0 in
    let stands = each_stands p.n p.t p.parties k nodes x.item legal (slice_get-get_or nodes k x.item x.within.1 ∙ ap Some x.within.2) in
    let below = turn_below p.n p.t p.parties k g x.item x.passes stands in
    contains_filter (rotates nodes) (range_with_len 0 (2 * p.n)) g (contains_range 0 (2 * p.n) g (omega arith) (omega (arith, below))) some

-- each of some numbers passes a test that all pass
each_passes : (test : ℕ → Bool) (xs : List ℕ) (x : ℕ) → list_all test xs ≡ true → Contains xs x → test x ≡ true
each_passes test [] x all m = absurd (contains_nil x m)
each_passes test (y ∷ ys) x all m = let both = and_parts (test y) (list_all test ys) all in elim (contains_cases y ys x m) [
  | inl same ↦ subst (λ (z : ℕ). test z ≡ true) same both.0
  | inr rest ↦ each_passes test ys x both.1 rest
]

-- the rows for a rotation among those for some
rows_among : (w : Setting) (seeds : List (List ℕ)) (is : List Instance) (turns : List ℕ) (g : ℕ) → Contains turns g →
    rows_for (map (rotation_in w seeds is) turns) g ≡ (rotation_in w seeds is g).rows
unfolding rows_for rotation_in
rows_among w seeds is [] g m = absurd (contains_nil g m)
rows_among w seeds is (h ∷ turns) g m =
    let P : Bool → Type 0 =
    λ b. rows_or_none (cond b (Some (rotation_in w seeds is h)) (find (is_for g) (map (rotation_in w seeds is) turns))) ≡ (rotation_in w seeds is g).rows in
    elim (cases_Bool (nat_eq h g)) [
      | inl same ↦ subst P (sym same) (subst (λ (z : ℕ). (rotation_in w seeds is h).rows ≡ (rotation_in w seeds is z).rows) (eqb-true h g same) refl)
      | inr other ↦
          let later : Contains turns g = elim (contains_cases h turns g m) [
            | inl e ↦ absurd (both_ways (nat_eq h g) other (eq-eqb h g e))
            | inr rest ↦ rest
          ] in
          subst P (sym other) (rows_among w seeds is turns g later)
    ]

-- ---- the keys of a state

module _ (p : Params) (w : Setting) (seeds : List (List ℕ)) (s : State) (numbers : w.numbers ≡ numbers_of p) (all : length seeds ≡ p.parties) (kept : Kept (rules w) s) where
  acts : (i : Instance) → Contains s.instances i → ActsWithin w p.threshold (role_of i)
  acts i m =
      let sound : IsSound (rules w) s.present i = kept.sound i m in
      acts_by_rules p w (role_of i) numbers sound.parties

  held_relin : has_done Rlk2 s.instances ≡ true →
      IsKeyUnder p (secret p.q p.n seeds) (ring_product p.q p.n (secret p.q p.n seeds) (secret p.q p.n seeds)) (relin_noise (numbers_for p p.threshold))
      (relin_in w seeds s.instances)
  unfolding relin_in
  held_relin done =
      let x = secret p.q p.n seeds in
      let f = done_found Rlk2 s.instances done in
      let both = found_is Rlk2 s.instances f.item f.found in
      subst (IsKeyUnder p x (ring_product p.q p.n x x) (relin_noise (numbers_for p p.threshold))) (sym (ap (relin_from w seeds) f.found))
      (relin_keys_belong p w p.threshold seeds (role_of f.item) numbers all both.1.signature (acts f.item both.0))

  held_rotation : (g : ℕ) → has_turn s g ≡ true →
      IsKeyUnder p (secret p.q p.n seeds) (ring_turned p.q p.n g (secret p.q p.n seeds)) (rotation_noise (numbers_for p p.threshold))
      (rotation_in w seeds s.instances g).rows
  unfolding rotation_in
  held_rotation g done =
      let x = secret p.q p.n seeds in
      let f = done_found (Turns g) s.instances done in
      let both = found_is (Turns g) s.instances f.item f.found in
      subst (IsKeyUnder p x (ring_turned p.q p.n g x) (rotation_noise (numbers_for p p.threshold))) (sym (ap (rotation_from w seeds) f.found))
      (rotation_keys_belong p w p.threshold seeds (role_of f.item) g numbers both.1.signature (acts f.item both.0))

-- what the plan of a circuit has
plan_product : (w : Setting) (c : ℕ) → c < length w.offers → has_product (nodes_at w c) ≡ true → (plan (rules w) c).product ≡ true
unfolding plan_of
plan_product w c l some = ap (λ (z : Plan). z.product) (plan_at w c l) ∙ some

plan_turns : (p : Params) (w : Setting) (c g : ℕ) → IsSetting p w → c < length w.offers → has_rot g (nodes_at w c) ≡ true → Contains (plan (rules w) c).turns g
plan_turns p w c g setting l some =
    let keeps : Keeps p _ = setting.circuits c no_offer l in
    let at : plan (rules w) c ≡ plan_of (numbers_of p) (nodes_at w c) = plan_at w c l ∙ ap (λ (z : Numbers). plan_of z (nodes_at w c)) setting.numbers in
    subst (λ (z : Plan). Contains z.turns g) (sym at) (planned p (nodes_at w c) g keeps.rules some)

or_done : (product done : Bool) → product ≡ true → (not product || done) ≡ true → done ≡ true
or_done true done some e = e
or_done false done some e = cc

pub held_keys_serve : HeldKeysServe
unfolding keys_in has_keys
held_keys_serve p w seeds s c setting all kept l have =
    let x = plan (rules w) c in
    let y = secret p.q p.n seeds in
    let both = and_parts (not x.product || has_done Rlk2 s.instances) (list_all (has_turn s) x.turns) have in
    record {
      rotations = λ g some.
          let m = plan_turns p w c g setting l some in
          subst (IsKeyUnder p y (ring_turned p.q p.n g y) (rotation_noise (numbers_for p p.threshold))) (sym (rows_among w seeds s.instances x.turns g m))
          (held_rotation p w seeds s setting.numbers all kept g (each_passes (has_turn s) x.turns g both.1 m));
      relin = λ some.
          let product = plan_product w c l some in
          subst (λ (b : Bool). IsKeyUnder p y (ring_product p.q p.n y y) (relin_noise (numbers_for p p.threshold)) (cond b (relin_in w seeds s.instances) [])) (sym product)
          (held_relin p w seeds s setting.numbers all kept (or_done x.product (has_done Rlk2 s.instances) product both.0));
      secret = λ some. omega (arith, secret_small p.q p.n seeds (omega arith), all);
    }

-- ---- circuits that are begun

-- the public key of a state serves each circuit that has an input
key_serves : (p : Params) (w : Setting) (seeds : List (List ℕ)) (s : State) (c : ℕ) → w.numbers ≡ numbers_of p → length seeds ≡ p.parties → Kept (rules w) s →
    (input_count w c ≡ 0) ⊎ (has_done Pk s.instances ≡ true) → Serves w p.threshold seeds c (keys_in w seeds s.instances c).public
unfolding keys_in
key_serves p w seeds s c numbers all kept (inl none) = inl none
key_serves p w seeds s c numbers all kept (inr done) =
    let f = done_found Pk s.instances done in
    let both = found_is Pk s.instances f.item f.found in
    inr record {
      role = role_of f.item;
      signature = both.1.signature;
      acts = acts p w seeds s numbers all kept f.item both.0;
      made = key_at w seeds s.instances f.item f.found;
    }

pub begun_ones_have_keys : BegunOnesHaveKeys
begun_ones_have_keys p w seeds s c setting all kept grounded l begun =
    let has = keyed w s grounded in
    record {
      switches = held_keys_serve p w seeds s c setting all kept l (has.keys c begun);
      public = key_serves p w seeds s c setting.numbers all kept (has.begun c begun);
    }
