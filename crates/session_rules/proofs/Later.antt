-- What never changes: each change of an instance, and of a state, leaves it.
use Rattle.std.proofs.Common.{◌≡◌, ◌∙◌, sym, subst, refl, ℕ, ◌<◌, ◌≤◌, Bool, true, false, ◌⊎◌, inl, inr, List, [], ◌∷◌, ◌++◌, length, map, get_or, set, Contains, arith, length-set}
use Rattle.std.specs.Prelude.{if◌then◌else◌}
use Rattle.std.proofs.lemmas.Bool.{both_ways, cases_eq, cases_lt}
use Rattle.std.proofs.lemmas.List.{get_or-map, get_or_append_left, get_or-set_same, get_or-set_other, set_past, length-map, length-append}
use Rattle.std.proofs.lemmas.List.Elements.{Contains-get_or}
use Rattle.proto_names.specs.Names.{is_void}
use Rattle.proto_names.specs.Instances.{with_share}
use Rattle.proto_names.specs.declared.signature.Signature.TheVariants.{Rlk1}
use Rattle.proto_names.specs.declared.instance.Instance.{Instance}
use Rattle.proto_names.specs.declared.instance.Stage.{Stage}
use Rattle.proto_names.specs.declared.instance.Stage.TheVariants.{Opened, Complete, Void}
use Rattle.session_rules.specs.declared.state.CircuitState.{CircuitState}
use Rattle.session_rules.specs.declared.state.CircuitState.TheVariants.{Answered}
use Rattle.session_rules.specs.States.{State, circuit, is_given, is_refused}
use Rattle.session_rules.specs.Deeds.{with_input}
use Rattle.session_rules.specs.Facts.{IsLive, IsSameLater, IsLater, is_settled}
use Rattle.session_rules.proofs.Marks.{IsDone}
use Rattle.session_rules.proofs.PartySets.{with_keeps}

-- ---- one instance

pub same_reflexive : (a : Instance) → IsSameLater a a
same_reflexive a = record {
  id = refl;
  signature = refl;
  set = refl;
  attempt = refl;
  round1 = refl;
  group = refl;
  sent = λ p h. h;
  closed = λ n. refl;
  opened = λ e. e;
  void = λ by e. e;
  complete = λ n e. e;
}

pub same_transitive : (a b c : Instance) → IsSameLater a b → IsSameLater b c → IsSameLater a c
same_transitive a b c x y = record {
  id = y.id ∙ x.id;
  signature = y.signature ∙ x.signature;
  set = y.set ∙ x.set;
  attempt = y.attempt ∙ x.attempt;
  round1 = y.round1 ∙ x.round1;
  group = y.group ∙ x.group;
  sent = λ p h. y.sent p (x.sent p h);
  closed = λ n. y.closed (λ e. n (x.opened e)) ∙ x.closed n;
  opened = λ e. x.opened (y.opened e);
  void = λ by e. y.void by (x.void by e);
  complete = λ n e. y.complete (λ s. n (sym x.signature ∙ s)) (x.complete n e);
}

-- what lives later lived before
pub later_lives : (a b : Instance) → IsSameLater a b → IsLive b → IsLive a
later_lives a b l h = at a.stage refl
  where
    at : (stage : Stage) → a.stage ≡ stage → is_void a.stage ≡ false
    at Opened e = rw e refl
    at Complete e = rw e refl
    at (Void by) e = absurd (both_ways (is_void b.stage) h (rw (l.void by e) refl))

-- it is given up where it was opened, or a complete first round
pub void_later : (a : Instance) (by : ℕ) → (a.stage ≡ Opened) ⊎ IsDone Rlk1 a → IsSameLater a (record a { stage = Void by })
void_later a by (inl opened) = record {
  id = refl;
  signature = refl;
  set = refl;
  attempt = refl;
  round1 = refl;
  group = refl;
  sent = λ p h. h;
  closed = λ n. refl;
  opened = λ e. opened;
  void = λ other e. cc;
  complete = λ n e. cc;
}
void_later a by (inr done) = record {
  id = refl;
  signature = refl;
  set = refl;
  attempt = refl;
  round1 = refl;
  group = refl;
  sent = λ p h. h;
  closed = λ n. refl;
  opened = λ e. cc;
  void = λ other e. let c = done.complete in cc;
  complete = λ n e. absurd (n done.signature);
}

pub share_later : (a : Instance) (p : ℕ) → a.stage ≡ Opened → IsSameLater a (with_share p a)
unfolding with_share
share_later a p opened = record {
  id = refl;
  signature = refl;
  set = refl;
  attempt = refl;
  round1 = refl;
  group = refl;
  sent = λ q h. with_keeps a.sent.bits p q h;
  closed = λ n. absurd (n opened);
  opened = λ e. opened;
  void = λ by e. cc;
  complete = λ n e. cc;
}

-- a change that is made where a test says so
pub where_so : (a now : Instance) (b : Bool) → (b ≡ true → IsSameLater a now) → IsSameLater a (if b then now else a)
where_so a now true h = h refl
where_so a now false h = same_reflexive a

-- ---- lists of instances

pub record AreLater (is now : List Instance) : Type 0 where
  pub issued : length is ≤ length now
  pub same : (k : ℕ) (d : Instance) → k < length is → IsSameLater (get_or is k d) (get_or now k d)

pub all_reflexive : (is : List Instance) → AreLater is is
all_reflexive is = record { issued = omega arith; same = λ k d l. same_reflexive (get_or is k d) }

pub map_later : (g : Instance → Instance) (is : List Instance) → ((a : Instance) → Contains is a → IsSameLater a (g a)) → AreLater is (map g is)
map_later g is h = record {
  issued = omega (arith, length-map is g);
  same = λ k d l. subst (λ (z : Instance). IsSameLater (get_or is k d) z) (sym (get_or-map g is k d d l)) (h (get_or is k d) (Contains-get_or is k d l));
}

pub push_later : (is : List Instance) (i : Instance) → AreLater is (is ++ i ∷ [])
push_later is i = record {
  issued = omega (arith, length-append is (i ∷ []));
  same = λ k d l. subst (λ (z : Instance). IsSameLater (get_or is k d) z) (sym (get_or_append_left is (i ∷ []) d k l)) (same_reflexive (get_or is k d));
}

-- ---- circuits

pub record StayAdmitted (before now : List CircuitState) : Type 0 where
  pub length : length now ≡ length before
  pub refused : (c : ℕ) → is_refused (circuit before c) ≡ true → circuit now c ≡ circuit before c
  pub admitted : (c : ℕ) → is_refused (circuit before c) ≡ false → is_refused (circuit now c) ≡ false
  pub evaluated : (c : ℕ) → is_settled (circuit before c) ≡ true → is_settled (circuit now c) ≡ true
  pub answered : (c : ℕ) → circuit before c ≡ Answered → circuit now c ≡ Answered

pub circuits_reflexive : (circuits : List CircuitState) → StayAdmitted circuits circuits
circuits_reflexive circuits = record { length = refl; refused = λ c e. refl; admitted = λ c e. e; evaluated = λ c e. e; answered = λ c e. e }

-- a circuit at c, or none of them where there is no circuit c
pub circuit_set : (circuits : List CircuitState) (c : ℕ) (now : CircuitState) → (circuit (set circuits c now) c ≡ now) ⊎ (set circuits c now ≡ circuits)
circuit_set circuits c now = elim (cases_lt c (length circuits)) [
  | inl less ↦ inl (get_or-set_same circuits c now Answered less)
  | inr more ↦ inr (set_past circuits c now more)
]

-- a fact about each circuit, where the new one keeps it
set_keeps : (P : CircuitState → Type 0) (circuits : List CircuitState) (c : ℕ) (now : CircuitState) → (P (circuit circuits c) → P now) → (d : ℕ) → P (circuit circuits d) → P (circuit (set circuits c now) d)
set_keeps P circuits c now h d e = elim (cases_eq d c) [
  | inl same ↦
      let there : P (circuit circuits c) = subst (λ (z : ℕ). P (circuit circuits z)) same e in
      subst (λ (z : ℕ). P (circuit (set circuits c now) z)) (sym same) (elim (circuit_set circuits c now) [
        | inl at ↦ subst P (sym at) (h there)
        | inr none ↦ subst (λ (z : List CircuitState). P (circuit z c)) (sym none) there
      ])
  | inr other ↦ subst P (sym (get_or-set_other circuits c d now Answered other)) e
]

pub set_admitted : (circuits : List CircuitState) (c : ℕ) (now : CircuitState) → is_refused (circuit circuits c) ≡ false → is_refused now ≡ false
    → (is_settled (circuit circuits c) ≡ true → is_settled now ≡ true) → (circuit circuits c ≡ Answered → now ≡ Answered) → StayAdmitted circuits (set circuits c now)
set_admitted circuits c now was is settled answered = record {
  length = length-set circuits c now;
  refused = λ d e. elim (cases_eq d c) [
    | inl same ↦ absurd (both_ways (is_refused (circuit circuits d)) (subst (λ (z : ℕ). is_refused (circuit circuits z) ≡ false) (sym same) was) e)
    | inr other ↦ get_or-set_other circuits c d now Answered other
  ];
  admitted = set_keeps (λ z. is_refused z ≡ false) circuits c now (λ e. is);
  evaluated = set_keeps (λ z. is_settled z ≡ true) circuits c now settled;
  answered = set_keeps (λ z. z ≡ Answered) circuits c now answered;
}

-- ---- inputs

pub row_stays : (row : List Bool) (k j : ℕ) → get_or row j false ≡ true → get_or (set row k true) j false ≡ true
row_stays row k j e = elim (cases_eq j k) [
  | inr other ↦ get_or-set_other row k j true false other ∙ e
  | inl same ↦ elim (cases_lt k (length row)) [
    | inl less ↦ subst (λ (z : ℕ). get_or (set row k true) z false ≡ true) (sym same) (get_or-set_same row k true false less)
    | inr more ↦ rw (set_past row k true more) e
  ]
]

pub given_stays : (given : List (List Bool)) (c k d j : ℕ) → get_or (get_or given d []) j false ≡ true → get_or (get_or (with_input given c k) d []) j false ≡ true
given_stays given c k d j e = elim (cases_eq d c) [
  | inr other ↦ rw (get_or-set_other given c d (set (get_or given c []) k true) [] other) e
  | inl same ↦ elim (cases_lt c (length given)) [
    | inl less ↦ subst (λ (z : ℕ). get_or (get_or (with_input given c k) z []) j false ≡ true) (sym same)
        (rw (get_or-set_same given c (set (get_or given c []) k true) [] less) (row_stays (get_or given c []) k j (subst (λ (z : ℕ). get_or (get_or given z []) j false ≡ true) same e)))
    | inr more ↦ rw (set_past given c (set (get_or given c []) k true) more) e
  ]
]

-- ---- states

pub state_later : (before now : State) → AreLater before.instances now.instances → ((c k : ℕ) → is_given before c k ≡ true → is_given now c k ≡ true) → StayAdmitted before.circuits now.circuits → IsLater before now
state_later before now is given circuits = record {
  issued = is.issued;
  same = is.same;
  given = given;
  circuits = circuits.length;
  refused = circuits.refused;
  admitted = circuits.admitted;
  evaluated = circuits.evaluated;
  answered = circuits.answered;
}

pub later_reflexive : (s : State) → IsLater s s
later_reflexive s = state_later s s (all_reflexive s.instances) (λ c k e. e) (circuits_reflexive s.circuits)

pub later_transitive : (s t u : State) → IsLater s t → IsLater t u → IsLater s u
later_transitive s t u x y = record {
  issued = let a = x.issued in let b = y.issued in omega arith;
  same = λ k d l. let a = x.issued in same_transitive (get_or s.instances k d) (get_or t.instances k d) (get_or u.instances k d) (x.same k d l) (y.same k d (omega arith));
  given = λ c k e. y.given c k (x.given c k e);
  circuits = y.circuits ∙ x.circuits;
  refused = λ c e. let first = x.refused c e in y.refused c (rw first e) ∙ first;
  admitted = λ c e. y.admitted c (x.admitted c e);
  evaluated = λ c e. y.evaluated c (x.evaluated c e);
  answered = λ c e. y.answered c (x.answered c e);
}
