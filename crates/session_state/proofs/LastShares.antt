-- What the last share of an instance leaves as it was, and what it brings: the public key, or an answer.
use Rattle.std.proofs.Common.{◌≡◌, ◌≢◌, ◌∙◌, sym, ap, subst, refl, ℕ, ◌<◌, true, inl, inr, List, [], length, map, get_or, set, slice_index_or, Contains, Option, Some, None, length-set, arith}
use Rattle.std.proofs.lemmas.Bool.{cases_eq, cases_lt, eq-eqb}
use Rattle.std.proofs.lemmas.List.{get_or-set_other, get_or-set_same, get_or_past, length-map}
use Rattle.std.specs.Option.{option_map}
use Rattle.ring_spec.specs.Ring.{IsPoly}
use Rattle.bfv_spec.specs.Shares.{pk_from}
use Rattle.param_set.specs.declared.params.Params.{Params}
use Rattle.proto_names.specs.Instances.{missing, with_share, counted_at, after_share}
use Rattle.proto_names.specs.declared.signature.Signature.{Signature}
use Rattle.proto_names.specs.declared.signature.Signature.TheVariants.{Pk, Rlk1, Rlk2, Rot, Dec}
use Rattle.proto_names.specs.declared.instance.Instance.{Instance}
use Rattle.proto_names.specs.declared.instance.Stage.TheVariants.{Complete}
use Rattle.instance_table.specs.Tables.{after_rows}
use Rattle.session_rules.specs.declared.fixed.Fixed.{Fixed}
use Rattle.session_rules.specs.declared.state.CircuitState.{CircuitState}
use Rattle.session_rules.specs.declared.state.CircuitState.TheVariants.{Evaluated, Answered}
use Rattle.session_rules.specs.States.{State, circuit}
use Rattle.session_rules.specs.declared.deed.Deed.TheVariants.{Counts}
use Rattle.session_rules.specs.Deeds.{answered_by, changed}
use Rattle.session_rules.specs.Facts.{is_settled, Kept, IsLater}
use Rattle.session_rules.proofs.Contained.{contains_map}
use Rattle.session_rules.proofs.Marks.{instance_within}
use Rattle.session_spec.specs.Settings.{Setting}
use Rattle.session_spec.specs.Honesty.{Matches}
use Rattle.session_spec.specs.Outputs.{key_instance}
use Rattle.session_spec.specs.Stores.{Store, held_sums, key_by, held_key}
use Rattle.session_state.specs.Completions.{HasSumsAlone, last_counted}
use Rattle.session_state.specs.Parts.{HasPlain, Holds}
use Rattle.session_state.specs.Wanted.{IsWanted}
use Rattle.session_state.proofs.Keys.{key_within, key_is, same_held}
use Rattle.session_state.proofs.Counting.{told_later, counted_next, same_keys, other_sums}

-- signatures whose complete instances give nothing but their sums: they answer no circuit, and aren't that of the public key
no_answer : (σ : Signature) (circuits : List CircuitState) → HasSumsAlone σ → answered_by σ circuits ≡ circuits
unfolding answered_by
no_answer Pk circuits alone = absurd alone
no_answer Rlk1 circuits alone = refl
no_answer Rlk2 circuits alone = refl
no_answer (Rot g) circuits alone = refl
no_answer (Dec c) circuits alone = absurd alone

pub not_key : (σ : Signature) → HasSumsAlone σ → σ ≢ Pk
not_key σ alone e = subst (λ (z : Signature). HasSumsAlone z) e alone

pub dec_not_key : (σ : Signature) (c : ℕ) → σ ≡ Dec c → σ ≢ Pk
dec_not_key σ c a b = cc

-- a circuit that is evaluated is there
pub evaluated_there : (circuits : List CircuitState) (c : ℕ) → circuit circuits c ≡ Evaluated → c < length circuits
evaluated_there circuits c e = elim (cases_lt c (length circuits)) [
  | inl less ↦ less
  | inr more ↦ let past : circuit circuits c ≡ Answered = get_or_past circuits c Answered more in absurd (evaluated_not (circuit circuits c) e past)
]
  where
    evaluated_not : (x : CircuitState) → x ≡ Evaluated → x ≡ Answered → ⊥
    evaluated_not x a b = cc

module _ (p : Params) (f : Fixed) (s : State) (id party rows : ℕ) (i : Instance) (k : Kept f s) (want : IsWanted f s id party rows i) (last : missing party i ≡ 0) where
  abbrev Then : State
  Then = last_counted s i id party

  pub last_is : changed (Counts i party) s ≡ Then
  unfolding changed
  last_is = rw (eq-eqb (missing party i) 0 last) (ap (λ (n : ℕ). record s { instances = after_share n party s.instances; circuits = answered_by i.signature s.circuits }) want.number)

  -- what holds then
  pub last_next : Kept f Then × IsLater s Then
  last_next = subst (λ (z : State). Kept f z × IsLater s z) last_is (counted_next f s id party rows i k want)

  same_length : length (after_share id party s.instances) ≡ length s.instances
  unfolding after_share
  same_length = length-map s.instances (counted_at id party)

  -- the circuit of a decryption is evaluated
  pub was_evaluated : (c : ℕ) → i.signature ≡ Dec c → circuit s.circuits c ≡ Evaluated
  was_evaluated c e = (k.decrypts i (instance_within s.instances id i want.issued)).opened c e want.opened

  complete_then : (with_share party i).stage ≡ Complete
  unfolding with_share
  complete_then = rw (eq-eqb (missing party i) 0 last) refl

  within_then : Contains (after_share id party s.instances) (with_share party i)
  unfolding after_share
  within_then =
      let at : counted_at id party i ≡ with_share party i = rw (eq-eqb i.id id want.number) refl in
      subst (λ (z : Instance). Contains (map (counted_at id party) s.instances) z) at
      (contains_map (counted_at id party) s.instances i (instance_within s.instances id i want.issued))

  same_signature : (with_share party i).signature ≡ i.signature
  unfolding with_share
  same_signature = refl

  same_id : (with_share party i).id ≡ i.id
  unfolding with_share
  same_id = refl

  -- ---- the public key

  key_then : i.signature ≡ Pk → key_instance (after_share id party s.instances) ≡ Some (with_share party i)
  key_then e = key_is f Then (with_share party i) last_next.0 within_then (record { signature = same_signature ∙ e; complete = complete_then })

  pub key_keyed : (w : Setting) (g : Store) → i.signature ≡ Pk
      → Some (pk_from w.numbers.q w.numbers.n w.public i.id (slice_index_or (held_sums g id) 0 [])) ≡ held_key w g (after_share id party s.instances)
  unfolding held_key
  key_keyed w g e =
      let at : option_map (key_by w g) (key_instance (after_share id party s.instances)) ≡ Some (key_by w g (with_share party i)) = ap (option_map (key_by w g)) (key_then e) in
      sym (at ∙ key_made w g (with_share party i) i.id id same_id (same_id ∙ want.number))
    where
      key_made : (w : Setting) (g : Store) (j : Instance) (a b : ℕ) → j.id ≡ a → j.id ≡ b
          → Some (key_by w g j) ≡ Some (pk_from w.numbers.q w.numbers.n w.public a (slice_index_or (held_sums g b) 0 []))
      key_made w g j a b x y = rw (← x) (rw (← y) refl)

  pub key_circuits : i.signature ≡ Pk → answered_by i.signature s.circuits ≡ s.circuits
  unfolding answered_by
  key_circuits e = rw e refl

  pub sums_circuits : HasSumsAlone i.signature → answered_by i.signature s.circuits ≡ s.circuits
  sums_circuits alone = no_answer i.signature s.circuits alone

  pub last_matches : (w : Setting) (h : Store) (q n : ℕ) (poly : List (List ℕ)) (answers : List (Option (List ℕ))) → length answers ≡ length h.answers
      → Matches w s h → Matches w Then (record h { sums = after_rows q n id poly h.sums; answers = answers })
  unfolding after_rows
  last_matches w h q n poly answers many m = record {
    told = m.told ∙ sym same_length;
    sums = length-set h.sums _ _ ∙ m.sums ∙ sym same_length;
    inputs = m.inputs;
    outputs = m.outputs;
    answers = many ∙ m.answers;
  }

  -- where no circuit is answered
  pub same_holds : (h : Store) (q n : ℕ) (poly : List (List ℕ)) → answered_by i.signature s.circuits ≡ s.circuits → Holds p s h
      → Holds p Then (record h { sums = after_rows q n id poly h.sums })
  same_holds h q n poly e holds = record {
    told = told_later p s Then h.told last_next.1 same_length holds.told;
    inputs = holds.inputs;
    outputs = λ c l settled. holds.outputs c (subst (λ (z : List CircuitState). c < length z) e l) (subst (λ (z : List CircuitState). is_settled (circuit z c) ≡ true) e settled);
    answers = λ c l answered. holds.answers c (subst (λ (z : List CircuitState). c < length z) e l) (subst (λ (z : List CircuitState). circuit z c ≡ Answered) e answered);
  }

  -- ---- an answer

  pub dec_circuits : (c : ℕ) → i.signature ≡ Dec c → answered_by i.signature s.circuits ≡ set s.circuits c Answered
  unfolding answered_by
  dec_circuits c e = rw e refl

  was_settled : (c d : ℕ) → i.signature ≡ Dec c → is_settled (circuit (set s.circuits c Answered) d) ≡ true → is_settled (circuit s.circuits d) ≡ true
  was_settled c d e settled = elim (cases_eq d c) [
    | inl same ↦ rw same (rw (was_evaluated c e) refl)
    | inr other ↦ subst (λ (z : CircuitState). is_settled z ≡ true) (get_or-set_other s.circuits c d Answered Answered other) settled
  ]

  was_there : (c d : ℕ) → i.signature ≡ Dec c → d < length (answered_by i.signature s.circuits) → d < length s.circuits
  was_there c d e l =
      let many : length (answered_by i.signature s.circuits) ≡ length s.circuits = ap length (dec_circuits c e) ∙ length-set s.circuits c Answered in
      omega arith

  answer_there : (h : Store) (c d : ℕ) (value : List ℕ) → d < length s.circuits → c < length h.answers → IsPoly p.t p.n value → i.signature ≡ Dec c → Holds p s h
      → circuit (set s.circuits c Answered) d ≡ Answered → HasPlain p (get_or (set h.answers c (Some value)) d None)
  answer_there h c d value l there fits e holds answered = elim (cases_eq d c) [
    | inl same ↦ rw same (rw (get_or-set_same h.answers c (Some value) None there) (record { there = refl; fits = fits }))
    | inr other ↦ rw (get_or-set_other h.answers c d (Some value) None other)
        (holds.answers d l (subst (λ (z : CircuitState). z ≡ Answered) (get_or-set_other s.circuits c d Answered Answered other) answered))
  ]

  pub dec_holds : (h : Store) (q n : ℕ) (poly : List (List ℕ)) (c : ℕ) (value : List ℕ) → i.signature ≡ Dec c → c < length h.answers → IsPoly p.t p.n value → Holds p s h
      → Holds p Then (record h { sums = after_rows q n id poly h.sums; answers = set h.answers c (Some value) })
  dec_holds h q n poly c value e there fits holds = record {
    told = told_later p s Then h.told last_next.1 same_length holds.told;
    inputs = holds.inputs;
    outputs = λ d l settled. holds.outputs d (was_there c d e l) (was_settled c d e (subst (λ (z : List CircuitState). is_settled (circuit z d) ≡ true) (dec_circuits c e) settled));
    answers = λ d l answered. answer_there h c d value (was_there c d e l) there fits e holds (subst (λ (z : List CircuitState). circuit z d ≡ Answered) (dec_circuits c e) answered);
  }

  -- ---- the public key stays, where the instance is of another signature

  pub same_keyed : (w : Setting) (h : Store) (q n : ℕ) (poly : List (List ℕ)) (answers : List (Option (List ℕ))) → i.signature ≢ Pk
      → held_key w (record h { sums = after_rows q n id poly h.sums; answers = answers }) (after_share id party s.instances) ≡ held_key w h s.instances
  unfolding after_rows
  same_keyed w h q n poly answers other =
      let g : Store = record h { sums = after_rows q n id poly h.sums; answers = answers } in
      same_held f w h g Then s.instances last_next.0 (same_keys f s id party rows i k want (λ d. other (sym same_signature ∙ d.signature)))
      (λ j e. let in_ = key_within s.instances j e in other_sums f s id party rows i k want h.sums _ j in_.within in_.done.complete)
