-- A circuit that is taken: its inputs are there, and what holds of the store holds then.
use Rattle.std.proofs.Common.{◌≡◌, ◌∙◌, sym, ap, subst, refl, ℕ, ◌<◌, true, inl, inr, List, [], length, map, get_or, set, Option, Some, None, arith, length-set}
use Rattle.std.specs.Prelude.{is_some, All, Result, Ok, Err, OnErr}
use Rattle.std.specs.declared.alloc.Global.{Global}
use Rattle.std.specs.declared.sync.Arc.{Arc}
use Rattle.std.proofs.lemmas.Bool.{both_ways, cases_eq}
use Rattle.std.proofs.lemmas.List.{get_or-map, get_or-set_same, get_or-set_other, length-map}
use Rattle.std.proofs.lemmas.List.Elements.{All-from_get_or, All-get_or}
use Rattle.ring_spec.specs.Pairs.{Cipher, CipherFits}
use Rattle.cipher_spec.specs.Ciphers.{no_cipher}
use Rattle.param_set.specs.declared.params.Params.{Params}
use Rattle.session_rules.specs.declared.fixed.Fixed.{Fixed}
use Rattle.session_rules.specs.declared.call.Call.TheVariants as call
use Rattle.session_rules.specs.declared.reply.Reply.{Reply}
use Rattle.session_rules.specs.declared.reply.Reply.TheVariants as reply
use Rattle.session_rules.specs.declared.state.CircuitState.{CircuitState}
use Rattle.session_rules.specs.declared.state.CircuitState.TheVariants.{Refused, Idle, Taken, Evaluated, Answered}
use Rattle.session_rules.specs.declared.deed.Deed.{Deed}
use Rattle.session_rules.specs.declared.deed.Deed.TheVariants.{Turns}
use Rattle.session_rules.specs.declared.deed.Verdict.{Verdict}
use Rattle.session_rules.specs.States.{State, seen, circuit}
use Rattle.session_rules.specs.Deeds.{with_circuit}
use Rattle.session_rules.specs.Steps.{says, does, take, next_ready, ready, has_keys}
use Rattle.session_rules.specs.Facts.{is_settled}
use Rattle.session_rules.specs.Grounds.{Grounded}
use Rattle.session_rules.specs.Allowed.{MayTurn, Allows}
use Rattle.session_rules.proofs.Readiness.{all_at, ready_is}
use Rattle.session_spec.specs.Settings.{Setting, rules, no_offer, input_count, Keeps, IsSetting}
use Rattle.session_spec.specs.Stores.{Store, held_input, cipher_or}
use Rattle.session_spec.specs.Honesty.{Matches}
use Rattle.session_state.specs.Parts.{ciphers_in, IsThere, HasCipher, Holds}
use Rattle.session_state.specs.Shared.{shared_if}
use Rattle.session_state.proofs.Leading.{fair_take}
use Rattle.session_state.proofs.Rows.{plan_inputs, row_number, row_is, pointer_there}

-- ---- which one

-- who is present plays no part in it
pub take_seen : (f : Fixed) (s : State) (who : ℕ) → take f (seen 0 s.instances s.given s.circuits) who ≡ take f s who
unfolding take next_ready ready has_keys
take_seen f s who = refl

-- where a circuit comes to a state, it is the least that is ready, and is the caller's then
pub record IsTheirs (f : Fixed) (s : State) (who : ℕ) (r : Reply) (c : ℕ) (now : CircuitState) : Type 0 where
  pub next : next_ready f s ≡ Some c
  pub reply : r ≡ reply.Job c
  pub taken : now ≡ Taken who

turned_so : (f : Fixed) (s : State) (who : ℕ) (r : Reply) (c : ℕ) (now : CircuitState) → MayTurn f s who call.Take r c now → IsTheirs f s who r c now
turned_so f s who r c (Refused place bound limit) a = absurd a
turned_so f s who r c Idle a = let same = a.call in cc
turned_so f s who r c (Taken its) a = record { next = a.next; reply = a.reply; taken = ap Taken a.who }
turned_so f s who r c Evaluated a = let same = a.call in cc
turned_so f s who r c Answered a = absurd a

pub take_turns : (f : Fixed) (s : State) (who c : ℕ) (now : CircuitState) → (take f s who).deed ≡ Turns c now → IsTheirs f s who (take f s who).reply c now
take_turns f s who c now e = turned_so f s who (take f s who).reply c now (subst (λ (d : Deed). Allows f s who call.Take (take f s who).reply d) e (fair_take f s who))

-- where none does, none is ready
pub take_none : (f : Fixed) (s : State) (who : ℕ) → ((c : ℕ) (now : CircuitState) → (take f s who).deed ≡ Turns c now → ⊥) → take f s who ≡ says reply.Nothing
unfolding take
take_none f s who = at (next_ready f s)
  where
    asked : Option ℕ → Verdict
    asked o = elim o [
      | None ↦ says reply.Nothing
      | Some c ↦ does (reply.Job c) (Turns c (Taken who))
    ]

    at : (o : Option ℕ) → ((c : ℕ) (now : CircuitState) → (asked o).deed ≡ Turns c now → ⊥) → asked o ≡ says reply.Nothing
    at None h = refl
    at (Some c) h = absurd (h c (Taken who) refl)

pub on_err : {T E : Type 0} (r : Result T E) (P : Type 0) → P → OnErr r P
on_err (Ok x) P p = tt
on_err (Err e) P p = p

-- ---- its inputs

-- a circuit that is ready has as many ciphertexts as inputs, each of which is there and fits
pub record HasInputs (p : Params) (w : Setting) (h : Store) (c : ℕ) : Type 0 where
  pub number : length (get_or h.inputs c []) ≡ input_count w c
  pub each : (k : ℕ) → k < length (get_or h.inputs c []) → HasCipher p (held_input h c k)

pub has_inputs : (p : Params) (w : Setting) (s : State) (h : Store) (c : ℕ) → Matches w s h → Holds p s h → Grounded (rules w) s → c < length w.offers → ready (rules w) s c ≡ true → HasInputs p w h c
has_inputs p w s h c m holds grounded l e =
    let many = row_number w s h c m l in
    let marks : length (get_or s.given c []) ≡ input_count w c = grounded.rows c ∙ plan_inputs w c in
    record {
      number = many;
      each = λ k less. holds.inputs c k (all_at (get_or s.given c []) k (ready_is (rules w) s c e).given (omega arith));
    }

-- so each pointer of its row is there
pub all_there : (p : Params) (w : Setting) (h : Store) (c : ℕ) (inputs : List (List (Option (Arc Cipher Global)))) (row : List (Option (Arc Cipher Global))) → HasInputs p w h c
    → h.inputs ≡ map ciphers_in inputs → c < length inputs → row ≡ get_or inputs c row → All IsThere row
all_there p w h c inputs row has same l e =
    let here : get_or h.inputs c [] ≡ ciphers_in row =
    ap (λ (z : List (List (Option Cipher))). get_or z c []) same ∙ row_is inputs c row l e in
    let many : length (get_or h.inputs c []) ≡ length row = ap length here ∙ length-map row shared_if in
    All-from_get_or IsThere row None (λ k less.
    let held = has.each k (omega arith) in
    let at : held_input h c k ≡ shared_if (get_or row k None) = ap (λ (z : List (Option Cipher)). get_or z k None) here ∙ get_or-map shared_if row k None None less in
    pointer_there (get_or row k None) (ap (λ (z : Option Cipher). is_some z) (sym at) ∙ held.there))

-- and the ciphertexts fit
pub all_fit : (p : Params) (w : Setting) (h : Store) (c : ℕ) → HasInputs p w h c → All (CipherFits p.q p.n) (map cipher_or (get_or h.inputs c []))
all_fit p w h c has =
    let row = get_or h.inputs c [] in
    All-from_get_or (CipherFits p.q p.n) (map cipher_or row) no_cipher (λ k less.
    let within : k < length row = omega (arith, length-map row cipher_or) in
    subst (λ (z : Cipher). CipherFits p.q p.n z) (sym (get_or-map cipher_or row k None no_cipher within)) (has.each k within).fits)

-- the circuit keeps the rules
pub circuit_keeps : (p : Params) (w : Setting) (c : ℕ) → IsSetting p w → c < length w.offers → Keeps p (get_or w.offers c no_offer)
circuit_keeps p w c is l = All-get_or (Keeps p) w.offers c no_offer l is.circuits

-- ---- what holds once it is taken

pub taken_holds : (p : Params) (s : State) (h : Store) (c who : ℕ) → c < length s.circuits → Holds p s h → Holds p (with_circuit s c (Taken who)) h
taken_holds p s h c who within holds =
    let now : circuit (set s.circuits c (Taken who)) c ≡ Taken who = get_or-set_same s.circuits c (Taken who) Answered within in
    let before : (d : ℕ) → is_settled (circuit (set s.circuits c (Taken who)) d) ≡ true → circuit (set s.circuits c (Taken who)) d ≡ circuit s.circuits d = λ d e. elim (cases_eq d c) [
      | inr other ↦ get_or-set_other s.circuits c d (Taken who) Answered other
      | inl same ↦ absurd (both_ways (is_settled (circuit (set s.circuits c (Taken who)) d)) (rw same (ap (λ (z : CircuitState). is_settled z) now)) e)
    ] in
    record {
      told = holds.told;
      inputs = holds.inputs;
      outputs = λ d m e. holds.outputs d (omega (arith, length-set s.circuits c (Taken who))) (subst (λ (z : CircuitState). is_settled z ≡ true) (before d e) e);
      answers = λ d m e. holds.answers d (omega (arith, length-set s.circuits c (Taken who))) (sym (before d (ap (λ (z : CircuitState). is_settled z) e)) ∙ e);
    }

pub taken_matches : (w : Setting) (s : State) (h : Store) (circuits : List CircuitState) → Matches w s h → Matches w (record s { circuits = circuits }) h
taken_matches w s h circuits m = record { told = m.told; sums = m.sums; inputs = m.inputs; outputs = m.outputs; answers = m.answers }
