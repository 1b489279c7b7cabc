-- What deeds make of an honest store, before anything is issued.
use Rattle.std.proofs.Common.{◌≡◌, ◌∙◌, sym, ap, subst, refl, ℕ, ◌-◌, ◌<◌, Bool, true, false, cond, inl, inr, List, [], ◌∷◌, length, get_or, Contains, Option, Some, None, arith, length-set}
use Rattle.std.specs.Prelude.{nat_lt}
use Rattle.std.proofs.lemmas.Bool.{both_ways, cases_eq, cases_lt, and_parts, eqb-true, ltb-true}
use Rattle.std.proofs.lemmas.List.{get_or-set_same, get_or-set_other, length-map}
use Rattle.ring_spec.specs.Pairs.{Cipher, Key}
use Rattle.param_set.specs.declared.params.Params.{Params}
use Rattle.share_spec.specs.Sets.{has}
use Rattle.cipher_spec.specs.Keys.{Keys}
use Rattle.proto_names.specs.Names.{is_void}
use Rattle.proto_names.specs.Roles.{role_of}
use Rattle.proto_names.specs.Groups.{with_party, number_outside}
use Rattle.proto_names.specs.Instances.{missing, after_share}
use Rattle.proto_names.specs.declared.signature.Signature.TheVariants.{Dec}
use Rattle.proto_names.specs.declared.instance.Instance.{Instance}
use Rattle.instance_table.specs.Tables.{after_rows}
use Rattle.session_rules.specs.declared.deed.Deed.TheVariants.{Joins, Loses, Counts, Gives, Turns}
use Rattle.session_rules.specs.declared.state.CircuitState.{CircuitState}
use Rattle.session_rules.specs.declared.state.CircuitState.TheVariants.{Evaluated, Answered}
use Rattle.session_rules.specs.States.{State, plan, circuit, is_given, is_admitted}
use Rattle.session_rules.specs.Deeds.{fallen, falls, after_loss, is_last, answered_by, changed}
use Rattle.session_rules.specs.Steps.{is_input}
use Rattle.session_rules.specs.Facts.{IsLive, Kept, IsLater, IsSound, is_settled}
use Rattle.session_rules.proofs.Contained.{contains_map_from}
use Rattle.session_rules.proofs.PartySets.{has_party, with_cases}
use Rattle.session_rules.proofs.Shares.{decides_dec, answered_other}
use Rattle.session_rules.proofs.Keeps.{Waits, IsTurned}
use Rattle.session_rules.proofs.Grounds.{set_cases}
use Rattle.session_spec.specs.Settings.{Setting, rules, plain_at, input_count}
use Rattle.session_spec.specs.Shares.{full_sums}
use Rattle.session_spec.specs.Outputs.{key_in, keys_in, input_of, output_of, told_by, polys_of, share_of}
use Rattle.session_spec.specs.Stores.{Store, held_sums, held_input, held_output, held_answer, with_rows, with_answer, with_output}
use Rattle.session_spec.specs.Stores as stores
use Rattle.session_laws.specs.Laws.{AnswersArePlain, Stands}
use Rattle.session_laws.proofs.Plans.{rules_number, plan_inputs, no_inputs_past, settled_begun}
use Rattle.session_laws.proofs.Keys.{Keyed, keyed, key_stays, output_stays, polys_stay}
use Rattle.session_laws.proofs.Totals.{all_sent, same_sums}
use Rattle.session_laws.proofs.Holding.{Holds, holds_from, sums_stay, told_at}
use Rattle.session_laws.proofs.Cells.{cell_same, cell_beside, cell_off, inputs_number, row_number}
use Rattle.session_laws.proofs.Admissions.{acts_by_rules}
use Rattle.session_laws.proofs.Answers.{opened_plain}
use Rattle.session_laws.proofs.Answered.{answer_told, answer_sums, answer_inputs, answer_outputs, answer_other, answer_its}
use Rattle.session_laws.proofs.Counted.{instances_number, added_sums, counted_told, counted_sums}

-- a loss leaves as many instances
pub lost_lengths : (party : ℕ) (s : State) → length s.instances ≡ length (changed (Loses party) s).instances
unfolding changed after_loss
lost_lengths party s = sym (length-map s.instances (fallen party s.instances))

module _ (p : Params) (w : Setting) (seeds : List (List ℕ)) (s : State) (h : Store) (y : Stands p w seeds s h) where
  abbrev key : Key
  key = key_in w seeds s.instances

  abbrev keys : ℕ → Keys
  keys = keys_in w seeds s.instances

  held : Holds w seeds s h
  held = holds_from w seeds s h y.kept.numbered y.honest

  keys_before : Keyed w s
  keys_before = keyed w s y.grounded

  -- ---- a later state

  module _ (t : State) (kept : Kept (rules w) t) (later : IsLater s t) where
    -- an input that was given, and an output that was there
    same_input : (c k : ℕ) → is_given s c k ≡ true → held_input h c k ≡ Some (input_of w seeds (key_in w seeds t.instances) c k)
    same_input c k e = held.inputs c k e ∙ ap (λ (z : Key). Some (input_of w seeds z c k)) (key_stays w seeds s t kept later (keys_before.given c k e))

    same_output : (c : ℕ) → c < length w.offers → is_settled (circuit s.circuits c) ≡ true → held_output h c ≡ Some (output_of w seeds (keys_in w seeds t.instances c) c)
    same_output c l e = held.outputs c l e ∙ ap Some (output_stays w seeds s t c keys_before kept later (settled_begun (circuit s.circuits c) e))

    -- what it holds still, where what lives was there, and nothing more is given, evaluated or answered
    stays : ((i : Instance) → Contains t.instances i → IsLive i → Contains s.instances i) → ((c k : ℕ) → is_given t c k ≡ true → is_given s c k ≡ true)
        → ((c : ℕ) → is_settled (circuit t.circuits c) ≡ true → circuit t.circuits c ≡ circuit s.circuits c) → Holds w seeds t h
    stays there given settled = record {
      told = λ i m alive. held.told i (there i m alive) alive ∙ polys_stay w seeds s t i y.kept keys_before kept later (there i m alive);
      sums = λ i m alive. held.sums i (there i m alive) alive ∙ sums_stay w seeds keys (keys_in w seeds t.instances) i (polys_stay w seeds s t i y.kept keys_before kept later (there i m alive));
      inputs = λ c k e. same_input c k (given c k e);
      outputs = λ c l e. same_output c l (subst (λ (z : CircuitState). is_settled z ≡ true) (settled c e) e);
      answers = λ c l e. held.answers c l (sym (settled c (rw e refl)) ∙ e);
    }

  -- ---- a party joins, or is lost

  pub join_holds : (party : ℕ) → Kept (rules w) (changed (Joins party) s) → IsLater s (changed (Joins party) s) → Holds w seeds (changed (Joins party) s) h
  unfolding changed
  join_holds party kept later = stays (changed (Joins party) s) kept later (λ i m alive. m) (λ c k e. e) (λ c e. refl)

  -- what lives then was there as it is
  stands : (party : ℕ) (i : Instance) → Contains (after_loss party s.instances) i → IsLive i → Contains s.instances i
  unfolding after_loss
  stands party i m alive =
      let c = contains_map_from (fallen party s.instances) s.instances i m in
      at c.source c.within c.same (falls party s.instances c.source) refl
    where
      at : (a : Instance) → Contains s.instances a → fallen party s.instances a ≡ i → (b : Bool) → falls party s.instances a ≡ b → Contains s.instances i
      at a n e true f = let void : is_void i.stage ≡ true = subst (λ (z : Instance). is_void z.stage ≡ true) e (rw f refl) in absurd (both_ways (is_void i.stage) alive void)
      at a n e false f = let same : fallen party s.instances a ≡ a = rw f refl in subst (λ (z : Instance). Contains s.instances z) (sym same ∙ e) n

  pub lose_holds : (party : ℕ) → Kept (rules w) (changed (Loses party) s) → IsLater s (changed (Loses party) s) → Holds w seeds (changed (Loses party) s) h
  unfolding changed
  lose_holds party kept later = stays (changed (Loses party) s) kept later (stands party) (λ c k e. e) (λ c e. refl)

  -- ---- a circuit is taken or given back, or evaluated

  pub turn_holds : (c : ℕ) (now : CircuitState) → is_settled now ≡ false → Kept (rules w) (changed (Turns c now) s) → IsLater s (changed (Turns c now) s) → Holds w seeds (changed (Turns c now) s) h
  unfolding changed
  turn_holds c now unsettled kept later = stays (changed (Turns c now) s) kept later (λ i m alive. m) (λ d k e. e)
      (λ d e. elim (set_cases s.circuits c d now) [
        | inl same ↦ same
        | inr it ↦ absurd (both_ways (is_settled now) unsettled (subst (λ (z : CircuitState). is_settled z ≡ true) it.1 e))
      ])

  module _ (c : ℕ) (ct : Cipher) (brought : ct ≡ output_of w seeds (keys c) c) where
    pub evaluate_holds : IsTurned (circuit s.circuits c) Evaluated → Kept (rules w) (changed (Turns c Evaluated) s) → IsLater s (changed (Turns c Evaluated) s) → Holds w seeds (changed (Turns c Evaluated) s) (with_output c ct h)
    unfolding changed with_output
    evaluate_holds was kept later =
        let matches = y.matches in record {
          told = held.told;
          sums = held.sums;
          inputs = held.inputs;
          outputs = λ d m e. elim (cases_eq d c) [
            | inl same ↦ rw same (get_or-set_same h.outputs c (Some ct) None (omega (arith, matches.outputs)) ∙ ap Some brought)
            | inr other ↦
                get_or-set_other h.outputs c d (Some ct) None other
                ∙ held.outputs d m (subst (λ (z : CircuitState). is_settled z ≡ true) (get_or-set_other s.circuits c d Evaluated Answered other) e)
          ];
          answers = λ d m e. elim (set_cases s.circuits c d Evaluated) [
            | inl same ↦ held.answers d m (sym same ∙ e)
            | inr it ↦ let closed : Evaluated ≡ Answered = sym it.1 ∙ e in cc
          ];
        }

  -- ---- an input is given

  -- a place of an input
  record Place (c k : ℕ) : Type 0 where
    circuit_there : c < length w.offers
    input_there : k < input_count w c

  place_from : (c k : ℕ) → is_input (rules w) c k ≡ true → Place c k
  unfolding is_input
  place_from c k e =
      let both = and_parts (is_admitted (plan (rules w) c)) (nat_lt k (length (plan (rules w) c).owners)) e in
      let less : k < input_count w c = omega (arith, ltb-true k (length (plan (rules w) c).owners) both.1, plan_inputs w c) in
      elim (cases_lt c (length w.offers)) [
        | inl there ↦ record { circuit_there = there; input_there = less }
        | inr more ↦ absurd (omega (arith, no_inputs_past w c more))
      ]

  pub give_holds : (c k : ℕ) (ct : Cipher) → is_input (rules w) c k ≡ true → ct ≡ input_of w seeds key c k → Holds w seeds (changed (Gives c k) s) (stores.with_input c k ct h)
  unfolding changed stores.with_input
  give_holds c k ct its brought =
      let at = place_from c k its in
      let first = at.circuit_there in
      let second = at.input_there in
      let rows : c < length s.given = omega (arith, y.kept.given, rules_number w) in
      let there : c < length h.inputs = omega (arith, inputs_number w s h y.matches) in
      let row : k < length (get_or h.inputs c []) = omega (arith, row_number w s h c y.matches first) in
      record {
        told = held.told;
        sums = held.sums;
        inputs = λ d j e. elim (cases_eq d c) [
          | inr off ↦ cell_off h.inputs c k (Some ct) None d j off ∙ held.inputs d j (sym (cell_off s.given c k true false d j off) ∙ e)
          | inl same ↦ elim (cases_eq j k) [
            | inl it ↦ rw (same, it) (cell_same h.inputs c k (Some ct) None there row ∙ ap Some brought)
            | inr beside ↦
                let was : is_given s c j ≡ true = sym (cell_beside s.given c k true false j rows beside) ∙ subst (λ (z : ℕ). is_given (changed (Gives c k) s) z j ≡ true) same e in
                rw same (cell_beside h.inputs c k (Some ct) None j there beside ∙ held.inputs c j was)
          ]
        ];
        outputs = held.outputs;
        answers = held.answers;
      }

  -- ---- a share is counted

  module _ (law : AnswersArePlain) (i : Instance) (party : ℕ) (rows : List (List ℕ)) (its : Waits s i party) (honest : rows ≡ share_of w seeds keys i party) where
    abbrev added : Store
    added = with_rows w i.id rows h

    abbrev closed : Store
    closed = with_answer w i.id i.signature added

    sound : IsSound (rules w) s.present i
    sound = y.kept.sound i its.within

    evaluated_before : (c : ℕ) → i.signature ≡ Dec c → circuit s.circuits c ≡ Evaluated
    evaluated_before c mark = (y.kept.decrypts i its.within).opened c mark its.opened

    added_inputs : added.inputs ≡ h.inputs
    unfolding with_rows
    added_inputs = refl

    added_outputs : added.outputs ≡ h.outputs
    unfolding with_rows
    added_outputs = refl

    added_answers : added.answers ≡ h.answers
    unfolding with_rows
    added_answers = refl

    pub added_lengths : (length added.told ≡ length (changed (Counts i party) s).instances) × (length added.sums ≡ length (changed (Counts i party) s).instances)
    unfolding changed with_rows after_rows
    added_lengths =
        let matches = y.matches in
        let many = sym (instances_number p w seeds s h i party rows y its honest) in
        (matches.told ∙ many, length-set h.sums (i.id - 1) _ ∙ matches.sums ∙ many)

    -- the state and the store then, by whether the share is the last
    abbrev state_by : Bool → State
    state_by last = record s { instances = after_share i.id party s.instances; circuits = cond last (answered_by i.signature s.circuits) s.circuits }

    abbrev store_by : Bool → Store
    store_by last = cond last closed added

    -- a circuit is as before, or it was evaluated
    was_settled : (c : ℕ) → is_settled (circuit (answered_by i.signature s.circuits) c) ≡ true → is_settled (circuit s.circuits c) ≡ true
    was_settled c e = elim (decides_dec i.signature c) [
      | inl mark ↦ ap (λ (z : CircuitState). is_settled z) (evaluated_before c mark)
      | inr other ↦ subst (λ (z : CircuitState). is_settled z ≡ true) (answered_other i.signature s.circuits c other) e
    ]

    nobody_missing : is_last party i ≡ true → number_outside i.set.bits (with_party i.sent.bits party) ≡ 0
    unfolding missing
    nobody_missing last = eqb-true (number_outside i.set.bits (with_party i.sent.bits party)) 0 last

    senders : (q : ℕ) → has (with_party i.sent.bits party) q ≡ true → has i.set.bits q ≡ true
    senders q e = elim (with_cases i.sent.bits party q (has_party i.set.bits party its.member).0 e) [
      | inl same ↦ subst (λ (z : ℕ). has i.set.bits z ≡ true) (sym same) its.member
      | inr before ↦ sound.senders q before
    ]

    -- the sums are those of the whole set
    whole_sums : is_last party i ≡ true → (c : ℕ) → i.signature ≡ Dec c → held_sums added i.id ≡ full_sums w seeds (role_of i) ((output_of w seeds (keys c) c).c1 ∷ [])
    unfolding told_by
    whole_sums last c mark =
        let polys = polys_of w seeds keys (role_of i) in
        added_sums p w seeds s h i party rows y its honest
        ∙ same_sums w seeds (role_of i) polys (with_party i.sent.bits party) i.set.bits (all_sent i.set.bits (with_party i.sent.bits party) senders (nobody_missing last))
        ∙ ap (full_sums w seeds (role_of i)) (told_at w seeds keys i (Dec c) mark)

    answered : is_last party i ≡ true → (c : ℕ) → c < length w.offers → circuit (answered_by i.signature s.circuits) c ≡ Answered → held_answer closed c ≡ Some (plain_at w c)
    answered last c l e = elim (decides_dec i.signature c) [
      | inl mark ↦
          let matches = y.matches in
          let within : c < length added.answers = omega (arith, matches.answers, ap length added_answers) in
          let output : held_output added c ≡ Some (output_of w seeds (keys c) c) =
          ap (λ (z : List (Option Cipher)). get_or z c None) added_outputs ∙ held.outputs c l (ap (λ (z : CircuitState). is_settled z) (evaluated_before c mark)) in
          answer_its w i.id i.signature added c mark within
          ∙ ap Some (opened_plain p w seeds s h added c i.id (role_of i) law y (evaluated_before c mark) (record { signature = mark; acts = acts_by_rules p w (role_of i) y.setting.numbers sound.parties }) output (whole_sums last c mark))
      | inr other ↦
          answer_other w i.id i.signature added c other ∙ ap (λ (z : List (Option (List ℕ))). get_or z c None) added_answers
          ∙ held.answers c l (sym (answered_other i.signature s.circuits c other) ∙ e)
    ]

    holds_by : (last : Bool) → is_last party i ≡ last → Kept (rules w) (state_by last) → IsLater s (state_by last) → Holds w seeds (state_by last) (store_by last)
    holds_by true last kept later =
        let t = state_by true in
        let told = counted_told p w seeds s h i party rows y its honest t refl kept later in
        let sums = counted_sums p w seeds s h i party rows y its honest t refl kept later in
        record {
          told = λ j m lives. ap (λ (z : List (List (List ℕ))). get_or z (j.id - 1) []) (answer_told w i.id i.signature added) ∙ told j m lives;
          sums = λ j m lives. ap (λ (z : List (List (List ℕ))). get_or z (j.id - 1) []) (answer_sums w i.id i.signature added) ∙ sums j m lives;
          inputs = λ c k e. ap (λ (z : List (List (Option Cipher))). get_or (get_or z c []) k None) (answer_inputs w i.id i.signature added ∙ added_inputs) ∙ same_input t kept later c k e;
          outputs = λ c l e. ap (λ (z : List (Option Cipher)). get_or z c None) (answer_outputs w i.id i.signature added ∙ added_outputs) ∙ same_output t kept later c l (was_settled c e);
          answers = λ c l e. answered last c l e;
        }
    holds_by false more kept later =
        let t = state_by false in
        record {
          told = counted_told p w seeds s h i party rows y its honest t refl kept later;
          sums = counted_sums p w seeds s h i party rows y its honest t refl kept later;
          inputs = λ c k e. ap (λ (z : List (List (Option Cipher))). get_or (get_or z c []) k None) added_inputs ∙ same_input t kept later c k e;
          outputs = λ c l e. ap (λ (z : List (Option Cipher)). get_or z c None) added_outputs ∙ same_output t kept later c l e;
          answers = λ c l e. ap (λ (z : List (Option (List ℕ))). get_or z c None) added_answers ∙ held.answers c l e;
        }

    pub count_holds : Kept (rules w) (changed (Counts i party) s) → IsLater s (changed (Counts i party) s) → Holds w seeds (changed (Counts i party) s) (stores.with_share w i party rows h)
    unfolding changed stores.with_share
    count_holds kept later = holds_by (is_last party i) refl kept later

    pub count_lengths : (length (stores.with_share w i party rows h).told ≡ length (changed (Counts i party) s).instances) × (length (stores.with_share w i party rows h).sums ≡ length (changed (Counts i party) s).instances)
    unfolding stores.with_share
    count_lengths = at (is_last party i)
      where
        at : (last : Bool) → (length (store_by last).told ≡ length (changed (Counts i party) s).instances) × (length (store_by last).sums ≡ length (changed (Counts i party) s).instances)
        at true = (ap length (answer_told w i.id i.signature added) ∙ added_lengths.0, ap length (answer_sums w i.id i.signature added) ∙ added_lengths.1)
        at false = added_lengths
