-- What lives after a round was there before, or is of a signature that may be issued; and no circuit is
-- ready then.
use Rattle.std.proofs.Common.{◌≡◌, ◌≢◌, ◌∙◌, sym, ap, subst, refl, ℕ, zero, suc, ◌<◌, Bool, true, false, ◌⊎◌, inl, inr, List, [], ◌∷◌, ◌++◌, length, get_or, set, map, slice_index_or, Contains, Option, Some, None, arith, length-set}
use Rattle.std.specs.List.{range_with_len}
use Rattle.std.proofs.lemmas.Bool.{cases_eq, cases_lt}
use Rattle.std.proofs.lemmas.List.{get_or-set_same, get_or-set_other, set_past}
use Rattle.share_spec.specs.Sets.{has, members}
use Rattle.proto_names.specs.declared.signature.Signature.{Signature}
use Rattle.proto_names.specs.declared.signature.Signature.TheVariants.{Pk, Dec}
use Rattle.session_rules.specs.declared.call.Call.TheVariants as call
use Rattle.session_rules.specs.declared.line.Line.TheVariants as line
use Rattle.session_rules.specs.declared.state.CircuitState.TheVariants.{Taken, Evaluated, Answered}
use Rattle.session_rules.specs.declared.fixed.Fixed.{Fixed}
use Rattle.session_rules.specs.States.{State, circuit, plan, has_done}
use Rattle.session_rules.specs.Issues.{condition, enough, issue}
use Rattle.session_rules.specs.declared.deed.Deed.TheVariants.{Gives}
use Rattle.session_rules.specs.Deeds.{with_input, with_circuit, changed}
use Rattle.session_rules.specs.Steps.{is_input, ready, next_ready, step}
use Rattle.session_rules.specs.Tasks.{Task, does, shares, delivers, gives, exhausts, finishes, exhausting, job}
use Rattle.session_rules.specs.Courses.{sends, round_tasks}
use Rattle.session_rules.proofs.Later.{later_transitive}
use Rattle.session_rules.proofs.Keeps.{give_next, turn_next, was_idle, was_taken}
use Rattle.session_rules.proofs.Readiness.{ready_idle}
use Rattle.session_rules.proofs.MoveKinds.{key, decryption}
use Rattle.session_rules.proofs.Rest.{calls_leave_rest}
use Rattle.session_rules.proofs.Issued.{Owes, rest_owes, rest_firm}
use Rattle.session_rules.proofs.Within.{given_later, Reached, Within, Fits, fits_later, issue_within, count_reached, last_within}
use Rattle.run_laws.proofs.Walks.{Settles, AllSettle, Leads, asks, leads_between, tasks_keep, all_map}
use Rattle.run_laws.proofs.Calls.{counts, completes, owner, Sends, stays, gives_share, gives_input, Sending, sending_does, nothing, takes, takes_is, evaluated, finishes_it}

-- ---- a circuit that is taken and finished

evaluated_at : (who : ℕ) (s : State) (c : ℕ) → c < length s.circuits → circuit (evaluated who s c).circuits c ≡ Evaluated
evaluated_at who s c l = get_or-set_same (set s.circuits c (Taken who)) c Evaluated Answered (omega (arith, length-set s.circuits c (Taken who)))

evaluated_other : (who : ℕ) (s : State) (c d : ℕ) → d ≢ c → circuit (evaluated who s c).circuits d ≡ circuit s.circuits d
evaluated_other who s c d n = get_or-set_other (set s.circuits c (Taken who)) c d Evaluated Answered n ∙ get_or-set_other s.circuits c d (Taken who) Answered n

-- one input more is given
given_cases : (given : List (List Bool)) (c k d j : ℕ) → get_or (get_or (with_input given c k) d []) j false ≡ true → (get_or (get_or given d []) j false ≡ true) ⊎ ((d ≡ c) × (j ≡ k))
given_cases given c k d j e =
    let row = get_or given c [] in
    elim (cases_eq d c) [
      | inr n ↦ inl (subst (λ (z : List Bool). get_or z j false ≡ true) (get_or-set_other given c d (set row k true) [] n) e)
      | inl at ↦ elim (cases_eq j k) [
        | inl same_ ↦ inr (at, same_)
        | inr n ↦ elim (cases_lt c (length given)) [
          | inr more ↦ inl (subst (λ (z : List (List Bool)). get_or (get_or z d []) j false ≡ true) (set_past given c (set row k true) more) e)
          | inl less ↦
              let here : get_or (get_or (with_input given c k) c []) j false ≡ true = subst (λ (z : ℕ). get_or (get_or (with_input given c k) z []) j false ≡ true) at e in
              let there : get_or (set row k true) j false ≡ true = subst (λ (z : List Bool). get_or z j false ≡ true) (get_or-set_same given c (set row k true) [] less) here in
              inl (subst (λ (z : ℕ). get_or (get_or given z []) j false ≡ true) (sym at) (sym (get_or-set_other row k j true false n) ∙ there))
        ]
      ]
    ]

-- ---- where a circuit is taken, or none

pub no_job : (f : Fixed) (who n : ℕ) (s t : State) → job (step f s who call.Take).0 ≡ None → (step f s who call.Take).1 ≡ s → Leads f who (suc n) s (exhausts ∷ []) t → Leads f who n s [] t
unfolding exhausting
no_job f who n s t j same h =
    subst (λ (z : Option ℕ). Leads f who n s (exhausting z ++ []) t) j (subst (λ (z : State). Leads f who n z (exhausting (job (step f s who call.Take).0) ++ []) t) same h)

a_job : (f : Fixed) (who n : ℕ) (s u t : State) (c : ℕ) → job (step f s who call.Take).0 ≡ Some c → (step f s who call.Take).1 ≡ u → Leads f who (suc n) s (exhausts ∷ []) t → Leads f who n u (finishes c ∷ exhausts ∷ []) t
unfolding exhausting
a_job f who n s u t c j same h =
    subst (λ (z : Option ℕ). Leads f who n u (exhausting z ++ []) t) j (subst (λ (z : State). Leads f who n z (exhausting (job (step f s who call.Take).0) ++ []) t) same h)

-- ---- calls from a state on

module _ (X : Signature → Type 0) (f : Fixed) (base : State) (fits : Fits X base) (who : ℕ) where
  abbrev In : State → Type 0
  In s = Within X f base s

  abbrev Come : State → Type 0
  Come s = Reached X f base s

  given_in : (s : State) (c k : ℕ) → In s → is_input f c k ≡ true → has_done Pk s.instances ≡ true → has s.present (owner f c k) ≡ true → Come (changed (Gives c k) s)
  unfolding changed
  given_in s c k w its done there =
      let r = w.reached in
      let t = changed (Gives c k) s in
      let next = give_next f s c k r.kept in
      record {
        kept = next.0;
        later = later_transitive base s t r.later next.1;
        present = r.present;
        brought = r.brought;
        turned = r.turned;
        given = λ d j e. elim (given_cases s.given c k d j e) [
          | inl before ↦ elim (r.given d j before) [
            | inl first ↦ inl first
            | inr due ↦ inr (record { input = due.input; key = due.key; owner = due.owner })
          ]
          | inr at ↦ inr (record {
            input = rw (at.0, at.1) its;
            key = done;
            owner = rw (at.0, at.1) (subst (λ (z : ℕ). has z (slice_index_or (plan f c).owners k 0) ≡ true) r.present there);
          })
        ];
      }

  sends_come : (s t : State) → In s → Sends f s t → Come t
  sends_come s t w (stays e) = subst Come (sym e) w.reached
  sends_come s t w (gives_share i p its (counts e)) = subst Come (sym e) (count_reached X f base s w (fits_later X f base s fits w.reached) i p its)
  sends_come s t w (gives_share i p its (completes e)) = subst Come (sym e) (last_within X f base s w (fits_later X f base s fits w.reached) i p its).reached
  sends_come s t w (gives_input c k its done there e) = subst Come (sym e) (given_in s c k w its done there)

  sending_in : (s : State) (x : Task) → Settles ⊥ x → In s → In (step f s who (asks x)).1
  sending_in s x h w = record { reached = sends_come s (step f s who (asks x)).1 w (sending_does f s who (asks x) w.reached.kept (asks_sending x h)); rest = calls_leave_rest f s who (asks x) w.reached.kept w.rest }
    where
      asks_sending : (x : Task) → Settles ⊥ x → Sending (asks x)
      asks_sending (does (line.Send p)) h = tt
      asks_sending (shares p id) h = tt
      asks_sending (delivers it) h = tt
      asks_sending (gives c k) h = tt
      asks_sending other h = absurd h

  -- those who send
  pub sends_in : (n : ℕ) (s : State) (ts : List Task) (t : State) → Leads f who n s ts t → AllSettle ⊥ ts → In s → In t
  sends_in n s ts t h all w = tasks_keep f who ⊥ In sending_in n s ts t h all w

  -- ---- a job

  evaluated_in : (s : State) (c : ℕ) → In s → ready f s c ≡ true → c < length f.plans → Come (evaluated who s c)
  unfolding changed
  evaluated_in s c w h l =
      let r = w.reached in
      let many = r.kept.circuits in
      let t = with_circuit s c (Taken who) in
      let u = evaluated who s c in
      let mine : circuit t.circuits c ≡ Taken who = get_or-set_same s.circuits c (Taken who) Answered (omega arith) in
      let first = turn_next f s c (Taken who) (was_idle (circuit s.circuits c) (Taken who) (ready_idle f s c h) refl) r.kept in
      let next = turn_next f t c Evaluated (was_taken who (circuit t.circuits c) Evaluated mine refl) first.0 in
      record {
        kept = next.0;
        later = later_transitive base s u r.later (later_transitive s t u first.1 next.1);
        present = r.present;
        brought = r.brought;
        turned = λ d. elim (cases_eq d c) [
          | inl e ↦ let its : circuit u.circuits d ≡ Evaluated = subst (λ (z : ℕ). circuit u.circuits z ≡ Evaluated) (sym e) (evaluated_at who s c (omega arith)) in inr (rw its refl)
          | inr n ↦ let same_ = evaluated_other who s c d n in elim (r.turned d) [
            | inl e ↦ inl (same_ ∙ e)
            | inr e ↦ inr (rw same_ e)
          ]
        ];
        given = given_later f base s u (later_transitive s t u first.1 next.1) refl r.given;
      }

  evaluated_owes : (s : State) (c : ℕ) → In s → X (Dec c) → Owes X f (evaluated who s c)
  unfolding condition enough
  evaluated_owes s c w may σ (key m) none stands = absurd (rest_owes f s w.rest σ (key m) none stands)
  evaluated_owes s c w may σ (decryption d its m e) none stands = elim (cases_eq d c) [
    | inl same_ ↦ subst X (sym (its ∙ ap Dec same_)) may
    | inr n ↦
        let many : length (evaluated who s c).circuits ≡ length s.circuits = length-set (set s.circuits c (Taken who)) c Evaluated ∙ length-set s.circuits c (Taken who) in
        absurd (rest_owes f s w.rest σ (decryption d its (subst (λ (z : ℕ). Contains (range_with_len 0 z) d) many m) (sym (evaluated_other who s c d n) ∙ e)) none stands)
  ]

  job_in : (s : State) (c : ℕ) → In s → ready f s c ≡ true → c < length f.plans → X (Dec c) → In (issue f (evaluated who s c))
  job_in s c w h l may = issue_within X f base (evaluated who s c) (evaluated_in s c w h l) (evaluated_owes s c w may) (inl (rest_firm f s w.reached.kept w.rest))

  -- after the work
  pub record Worked (s : State) : Type 0 where
    pub within : In s
    pub none : next_ready f s ≡ None

  nothing_left : (n : ℕ) (s t : State) → In s → next_ready f s ≡ None → Leads f who n s [] t → Worked t
  nothing_left zero s t w none h = subst Worked (sym h.1) (record { within = w; none = none })
  nothing_left (suc n) s t w none h = absurd h

  works_in : (n : ℕ) (s t : State) → ((c : ℕ) → X (Dec c)) → Leads f who n s (exhausts ∷ []) t → In s → Worked t
  works_in zero s t may h w = let none : exhausts ∷ [] ≡ [] = h.0 in cc
  works_in (suc zero) s t may h w = elim (takes_is f who s) [
    | nothing none j same ↦ nothing_left zero s t w none (no_job f who zero s t j same h)
    | takes c r l j same ↦ let none : finishes c ∷ exhausts ∷ [] ≡ [] = (a_job f who zero s (with_circuit s c (Taken who)) t c j same h).0 in cc
  ]
  works_in (suc (suc n)) s t may h w = elim (takes_is f who s) [
    | nothing none j same ↦ nothing_left (suc n) s t w none (no_job f who (suc n) s t j same h)
    | takes c r l j same ↦
        let many = w.reached.kept.circuits in
        let u = with_circuit s c (Taken who) in
        let on : Leads f who n (step f u who (call.Finish c)).1 (exhausts ∷ []) t = a_job f who (suc n) s u t c j same h in
        works_in n (issue f (evaluated who s c)) t may (subst (λ (z : State). Leads f who n z (exhausts ∷ []) t) (finishes_it f who s c (omega arith)) on) (job_in s c w r l (may c))
  ]

  -- a round leaves no circuit ready
  pub round_in : (n : ℕ) (s t : State) → ((c : ℕ) → X (Dec c)) → Leads f who n s (round_tasks s) t → In s → Worked t
  unfolding round_tasks
  round_in n s t may h w =
      let b = leads_between f who n s (map sends (members s.present)) (exhausts ∷ []) t h in
      works_in b.more b.between t may b.second (sends_in b.here s (map sends (members s.present)) b.between b.first (all_map ⊥ sends (members s.present) (λ p. tt)) w)
