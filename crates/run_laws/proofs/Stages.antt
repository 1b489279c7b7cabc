-- From round to round fewer signatures can be opened: settling comes to an end.
use Rattle.std.proofs.Common.{◌≡◌, ◌≢◌, ◌∙◌, sym, ap, subst, refl, ℕ, zero, suc, ◌<◌, ◌≤◌, Bool, true, false, inl, inr, List, [], ◌∷◌, length, map, filter, count_by, slice_index_or, Contains, None, arith}
use Rattle.std.specs.Prelude.{not, ⊤}
use Rattle.std.specs.List.{range_with_len}
use Rattle.std.proofs.lemmas.Bool.{both_ways, cases_lt, and_parts, not-true}
use Rattle.std.proofs.lemmas.List.Elements.{Contains-append_left}
use Rattle.std.proofs.lemmas.List.Sums.{length-filter}
use Rattle.share_spec.specs.Sets.{has, members, members_to}
use Rattle.proto_names.specs.Groups.{is_outside, number_outside}
use Rattle.proto_names.specs.declared.signature.Signature.{Signature}
use Rattle.proto_names.specs.declared.signature.Signature.TheVariants.{Pk, Rlk1, Rlk2, Rot, Dec}
use Rattle.proto_names.specs.declared.instance.Instance.{Instance}
use Rattle.proto_names.specs.declared.instance.Stage.{Stage as Stage_}
use Rattle.proto_names.specs.declared.instance.Stage.TheVariants.{Opened, Complete, Void}
use Rattle.session_rules.specs.declared.state.CircuitState.{CircuitState}
use Rattle.session_rules.specs.declared.state.CircuitState.TheVariants.{Idle}
use Rattle.session_rules.specs.declared.fixed.Fixed.{Fixed}
use Rattle.session_rules.specs.States.{State, circuit, is_given, is_idle, has_done}
use Rattle.session_rules.specs.Steps.{is_input, ready, next_ready}
use Rattle.session_rules.specs.Tasks.{exhausts}
use Rattle.session_rules.specs.Courses.{sends, round_tasks}
use Rattle.session_rules.specs.Facts.{is_settled, IsSameLater, Kept, IsAtRest}
use Rattle.session_rules.specs.Grounds.{GaveAll}
use Rattle.session_rules.proofs.Contained.{Passing, contains_map, contains_filter, contains_filter_from, contains_range}
use Rattle.session_rules.proofs.Grounds.{KeptWell}
use Rattle.session_rules.proofs.Issued.{IsWithin, done_one, done_here}
use Rattle.session_rules.proofs.Marks.{complete_lives, opened_lives}
use Rattle.session_rules.proofs.PartySets.{has_party}
use Rattle.session_rules.proofs.Readiness.{all_at, all_each, ready_before, none_is, none_from}
use Rattle.session_rules.proofs.Within.{Reached, Fits, begins, was_or_new}
use Rattle.run_laws.proofs.Calls.{owner, takes_is, nothing, takes, task_present}
use Rattle.run_laws.proofs.Reach.{no_job, sends_in, round_in}
use Rattle.run_laws.proofs.Sends.{leads_well, Doing, sends_give, sends_inputs}
use Rattle.run_laws.proofs.Walks.{AllSettle, Leads, leads_between, tasks_keep, all_map, all_append}

-- ---- where all who are present gave

-- where one is counted, one passes
counted_one : {X : Type 0} (test : X → Bool) (xs : List X) → 1 ≤ count_by test xs → Passing test xs
counted_one {X} test xs l = at (filter test xs) refl (length-filter test xs)
  where
    at : (ys : List X) → filter test xs ≡ ys → length (filter test xs) ≡ count_by test xs → Passing test xs
    at [] e n = let z : length (filter test xs) ≡ 0 = ap length e in absurd (omega arith)
    at (y ∷ ys) e n =
        let m : Contains (filter test xs) y = subst (λ (z : List X). Contains z y) (sym e) (0, omega arith, refl) in
        let c = contains_filter_from test xs y m in
        record { item = y; within = c.0; passes = c.1 }

outside_one : (set there : ℕ) → 1 ≤ number_outside set there → (p : ℕ) × (has set p ≡ true) × (has there p ≡ false)
unfolding number_outside is_outside
outside_one set there l =
    let x = counted_one (is_outside set there) (range_with_len 1 32) l in
    let both = and_parts (has set x.item) (not (has there x.item)) x.passes in
    (x.item, both.0, not-true (has there x.item) both.1)

-- where all who are present gave, what is opened is new
pub opened_new : (f : Fixed) (s : State) (b : ℕ) → 1 ≤ f.threshold → Kept f s → ((p : ℕ) → has s.present p ≡ true → GaveAll p b s) → (i : Instance) → Contains s.instances i → i.stage ≡ Opened → b < i.id
opened_new f s b some_ k gave i m opened = elim (cases_lt b i.id) [
  | inl less ↦ less
  | inr few ↦
      let sound = k.sound i m in
      let out = outside_one i.set.bits i.sent.bits (sound.opened some_ opened) in
      let there = sound.awaited opened out.0 out.1 out.2 in
      absurd (both_ways (has i.sent.bits out.0) out.2 (gave out.0 there i m few opened out.1))
]

pub member_of : (set p : ℕ) → has set p ≡ true → Contains (members set) p
unfolding members members_to
member_of set p h =
    let range = has_party set p h in
    let first = range.0 in let last = range.1 in
    contains_filter (has set) (range_with_len 1 32) p (contains_range 1 32 p first (omega arith)) h

-- ---- stages

abbrev pub rank : Signature → ℕ
rank Pk = 0
rank Rlk1 = 1
rank Rlk2 = 2
rank (Rot g) = 0
rank (Dec c) = 3

-- each input of those who are present is given, once there is a public key
abbrev pub NothingOwed : Fixed → State → Type 0
NothingOwed f s = has_done Pk s.instances ≡ true → (c k : ℕ) → is_input f c k ≡ true → has s.present (owner f c k) ≡ true → is_given s c k ≡ true

-- after k rounds
pub record Stage (f : Fixed) (k : ℕ) (s : State) : Type 0 where
  pub well : KeptWell f s
  pub rest : IsAtRest f s
  pub ranked : (i : Instance) → Contains s.instances i → i.stage ≡ Opened → k ≤ rank i.signature
  pub within : 1 ≤ k → (i : Instance) → Contains s.instances i → i.stage ≡ Opened → IsWithin s.present i
  pub none : 1 ≤ k → next_ready f s ≡ None
  pub owed : 2 ≤ k → NothingOwed f s

-- what may be issued in the next round
abbrev Next : ℕ → Signature → Type 0
Next k σ = suc k ≤ rank σ

first_rank : (k : ℕ) (σ : Signature) → σ ≡ Rlk1 → k ≤ rank σ → k ≤ 1
first_rank k σ e l = rw e at l

stage_fits : (f : Fixed) (k : ℕ) (s : State) → Stage f k s → k ≤ 2 → Fits (Next k) s
stage_fits f k s g few = record {
  closed = λ (l : suc k ≤ 1). omega arith;
  second = λ i m opened first. let l = first_rank k i.signature first (g.ranked i m opened) in omega arith;
  first = λ i m opened first. elim (cases_lt 0 k) [
    | inl more ↦ inr (g.within (omega arith) i m opened)
    | inr none ↦ inl (omega arith)
  ];
}

-- a complete one that was not opened was complete, or is new
done_before : (f : Fixed) (X : Signature → Type 0) (s t : State) (σ : Signature) → Reached X f s t → ((i : Instance) → Contains s.instances i → i.stage ≡ Opened → i.signature ≢ σ) → (X σ → ⊥) → has_done σ t.instances ≡ true → has_done σ s.instances ≡ true
done_before f X s t σ r unopened no_ h =
    let d = done_one σ t.instances h in
    let done = d.done in
    let i = d.item in
    elim (was_or_new f s t i r.kept r.later d.within) [
      | inr new ↦ absurd (no_ (subst X done.signature (r.brought i d.within (complete_lives i done.complete) new).0))
      | inl was ↦
          let a = was.before in
          let same = was.same in
          let mark : a.signature ≡ σ = sym same.signature ∙ done.signature in
          at a was.within mark same done.complete a.stage refl
    ]
  where
    at : (a : Instance) → Contains s.instances a → a.signature ≡ σ → IsSameLater a (done_one σ t.instances h).item → (done_one σ t.instances h).item.stage ≡ Complete → (stage : Stage_) → a.stage ≡ stage → has_done σ s.instances ≡ true
    at a m mark same complete Opened e = absurd (unopened a m e mark)
    at a m mark same complete Complete e = done_here σ s.instances a m (record { signature = mark; complete = e })
    at a m mark same complete (Void by) e = let v : Void by ≡ Complete = sym (same.void by e) ∙ complete in cc

-- ---- what a round does, whatever may be issued

abbrev pub Any : Signature → Type 0
Any σ = ⊤

pub any_fits : (s : State) → Fits Any s
any_fits s = record { closed = λ e. tt; second = λ i m o e. tt; first = λ i m o e. inl tt }

pub round_settles : (s : State) → AllSettle ⊤ (round_tasks s)
unfolding round_tasks
round_settles s = all_append ⊤ (map sends (members s.present)) (exhausts ∷ []) (all_map ⊤ sends (members s.present) (λ p. tt)) (tt, tt)

all_send : (s : State) (p : ℕ) → has s.present p ≡ true → Contains (round_tasks s) (sends p)
unfolding round_tasks
all_send s p h = Contains-append_left (map sends (members s.present)) (exhausts ∷ []) (sends p) (contains_map sends (members s.present) p (member_of s.present p h))

pub round_present : (f : Fixed) (who n : ℕ) (s t : State) → Leads f who n s (round_tasks s) t → t.present ≡ s.present
round_present f who n s t h = tasks_keep f who ⊤ (λ (u : State). u.present ≡ s.present) (λ u x its e. task_present ⊤ f u who x its ∙ e) n s (round_tasks s) t h (round_settles s) refl

round_doing : (f : Fixed) (who n : ℕ) (s t : State) → KeptWell f s → Leads f who n s (round_tasks s) t → Doing f who ⊤ s (round_tasks s) t
round_doing f who n s t well h = record { calls = n; leads = h; all = round_settles s; well = well }

-- what is opened then is new
round_new : (f : Fixed) (who n : ℕ) (s t : State) → 1 ≤ f.threshold → KeptWell f s → Leads f who n s (round_tasks s) t → (i : Instance) → Contains t.instances i → i.stage ≡ Opened → length s.instances < i.id
round_new f who n s t some_ well h i m opened =
    opened_new f t (length s.instances) some_ (leads_well f who n s (round_tasks s) t h well).0 (λ p there_.
    let there : has s.present p ≡ true = subst (λ (z : ℕ). has z p ≡ true) (round_present f who n s t h) there_ in
    sends_give f who ⊤ p s (round_tasks s) t (round_doing f who n s t well h) (all_send s p there) there) i m opened

-- and, where no key is complete that was not, the inputs of those who are present are given
round_owed : (f : Fixed) (who n : ℕ) (s t : State) (X : Signature → Type 0) → KeptWell f s → Leads f who n s (round_tasks s) t → Reached X f s t
    → ((i : Instance) → Contains s.instances i → i.stage ≡ Opened → i.signature ≢ Pk) → (X Pk → ⊥) → NothingOwed f t
round_owed f who n s t X well h reached unopened no_ done c k its there_ =
    let there : has s.present (owner f c k) ≡ true = subst (λ (z : ℕ). has z (owner f c k) ≡ true) (round_present f who n s t h) there_ in
    sends_inputs f who ⊤ s (round_tasks s) t c k (round_doing f who n s t well h) (all_send s (owner f c k) there) its (done_before f X s t Pk reached unopened no_ done) there

pk_unopened : (f : Fixed) (k : ℕ) (s : State) → Stage f k s → 1 ≤ k → (i : Instance) → Contains s.instances i → i.stage ≡ Opened → i.signature ≢ Pk
pk_unopened f k s g l i m opened e = let h = ranked_is k i.signature Pk e (g.ranked i m opened) in absurd (omega arith)
  where
    ranked_is : (k : ℕ) (σ τ : Signature) → σ ≡ τ → k ≤ rank σ → k ≤ rank τ
    ranked_is k σ τ e l = subst (λ (z : Signature). k ≤ rank z) e l

-- the first three rounds
early : (f : Fixed) (who k n : ℕ) (s t : State) → 1 ≤ f.threshold → k ≤ 2 → Stage f k s → Leads f who n s (round_tasks s) t → Stage f (suc k) t
early f who k n s t some_ few g h =
    let w = round_in (Next k) f s (stage_fits f k s g few) who n s t (λ c. omega arith) h (begins (Next k) f s g.well.0 g.rest) in
    let reached = w.within.reached in
    let new : (i : Instance) → Contains t.instances i → i.stage ≡ Opened → (Next k i.signature) × IsWithin s.present i =
    λ i m opened. reached.brought i m (opened_lives i opened) (round_new f who n s t some_ g.well h i m opened) in
    record {
      well = leads_well f who n s (round_tasks s) t h g.well;
      rest = w.within.rest;
      ranked = λ i m opened. (new i m opened).0;
      within = λ l i m opened p there. subst (λ (z : ℕ). has z p ≡ true) (sym reached.present) ((new i m opened).1 p there);
      none = λ l. w.none;
      owed = λ l. round_owed f who n s t (Next k) g.well h reached (pk_unopened f k s g (omega arith)) (λ (z : suc k ≤ 0). absurd (omega arith));
    }

-- ---- the later rounds, in which nothing is issued

abbrev Nothing : Signature → Type 0
Nothing σ = ⊥

quiet_fits : (f : Fixed) (k : ℕ) (s : State) → Stage f k s → 3 ≤ k → Fits Nothing s
quiet_fits f k s g more = record {
  closed = λ e. e;
  second = λ i m opened first. let l = first_rank k i.signature first (g.ranked i m opened) in absurd (omega arith);
  first = λ i m opened first. let l = first_rank k i.signature first (g.ranked i m opened) in absurd (omega arith);
}

idle_unsettled : (now : CircuitState) → is_idle now ≡ true → is_settled now ≡ true → ⊥
idle_unsettled Idle a b = cc
idle_unsettled other a b = cc

quiet_ready : (f : Fixed) (k : ℕ) (s t : State) → Stage f k s → 3 ≤ k → KeptWell f t → Reached Nothing f s t → (c : ℕ) → ready f t c ≡ true → ready f s c ≡ true
quiet_ready f k s t g more well reached c e =
    let unopened : (σ : Signature) → rank σ ≤ 2 → (i : Instance) → Contains s.instances i → i.stage ≡ Opened → i.signature ≢ σ =
    λ σ l i m opened its. let h = subst (λ (z : Signature). k ≤ rank z) its (g.ranked i m opened) in absurd (omega arith) in
    let done : (σ : Signature) → rank σ ≤ 2 → has_done σ t.instances ≡ true → has_done σ s.instances ≡ true =
    λ σ l. done_before f Nothing s t σ reached (unopened σ l) (λ x. x) in
    let a = well.1.rows c in
    let b = g.well.1.rows c in
    ready_before f s t c (record {
      idle = λ i. elim (reached.turned c) [
        | inl same ↦ subst (λ (z : CircuitState). is_idle z ≡ true) same i
        | inr settled_ ↦ absurd (idle_unsettled (circuit t.circuits c) i settled_)
      ];
      given = λ all. all_each (slice_index_or s.given c []) (λ j l. elim (reached.given c j (all_at (slice_index_or t.given c []) j all (omega arith))) [
        | inl before ↦ before
        | inr due ↦ g.owed (omega arith) (done Pk (omega arith) due.key) c j due.input due.owner
      ]);
      relin = done Rlk2 (omega arith);
      turn = λ x. done (Rot x) (omega arith);
    }) e

-- where no circuit is ready, working changes nothing
work_nothing : (n : ℕ) (f : Fixed) (who : ℕ) (s t : State) → Kept f s → next_ready f s ≡ None → Leads f who n s (exhausts ∷ []) t → t ≡ s
work_nothing zero f who s t k none h = let no_ : exhausts ∷ [] ≡ [] = h.0 in cc
work_nothing (suc n) f who s t k none h = elim (takes_is f who s) [
  | nothing e j same ↦ stays n (no_job f who n s t j same h)
  | takes c r l j same ↦ absurd (none_is f s c k none r)
]
  where
    stays : (n : ℕ) → Leads f who n s [] t → t ≡ s
    stays zero h = h.1
    stays (suc n) h = absurd h

late : (f : Fixed) (who k n : ℕ) (s t : State) → 1 ≤ f.threshold → 3 ≤ k → Stage f k s → Leads f who n s (round_tasks s) t → Stage f (suc k) t
unfolding round_tasks
late f who k n s t some_ more g h =
    let ps = map sends (members s.present) in
    let b = leads_between f who n s ps (exhausts ∷ []) t h in
    let u = b.between in
    let w = sends_in Nothing f s (quiet_fits f k s g more) who b.here s ps u b.first (all_map ⊥ sends (members s.present) (λ p. tt)) (begins Nothing f s g.well.0 g.rest) in
    let none : next_ready f u ≡ None =
    none_from f u (λ c e. none_is f s c g.well.0 (g.none (omega arith)) (quiet_ready f k s u g more (leads_well f who b.here s ps u b.first g.well) w.reached c e)) in
    let same : u ≡ t = sym (work_nothing b.more f who u t w.reached.kept none b.second) in
    let reached = subst (Reached Nothing f s) same w.reached in
    let nobody : (i : Instance) → Contains t.instances i → i.stage ≡ Opened → ⊥ =
    λ i m opened. (reached.brought i m (opened_lives i opened) (round_new f who n s t some_ g.well h i m opened)).0 in
    record {
      well = leads_well f who n s (round_tasks s) t h g.well;
      rest = subst (IsAtRest f) same w.rest;
      ranked = λ i m opened. absurd (nobody i m opened);
      within = λ l i m opened. absurd (nobody i m opened);
      none = λ l. subst (λ (z : State). next_ready f z ≡ None) same none;
      owed = λ l. round_owed f who n s t Nothing g.well h reached (pk_unopened f k s g (omega arith)) (λ x. x);
    }

pub stage_next : (f : Fixed) (who k n : ℕ) (s t : State) → 1 ≤ f.threshold → Stage f k s → Leads f who n s (round_tasks s) t → Stage f (suc k) t
stage_next f who k n s t some_ g h = elim (cases_lt k 3) [
  | inl less ↦ early f who k n s t some_ (omega arith) g h
  | inr more ↦ late f who k n s t some_ more g h
]
