-- From a state on nobody joins or is lost, and no circuit is given back: what lives then was there before,
-- or is of a signature that may be issued.
use Rattle.std.proofs.Common.{◌≡◌, ◌≢◌, ◌∙◌, sym, ap, subst, refl, ℕ, ◌<◌, Bool, true, false, cond, ◌⊎◌, inl, inr, List, [], length, map, get_or, slice_index_or, Contains, arith}
use Rattle.std.specs.Prelude.{if◌then◌else◌, nat_eq}
use Rattle.std.specs.List.{range_with_len}
use Rattle.std.proofs.lemmas.Bool.{both_ways, cases_lt, eqb-true, eqb-false}
use Rattle.std.proofs.lemmas.List.Elements.{Contains-get_or}
use Rattle.share_spec.specs.Sets.{has}
use Rattle.proto_names.specs.Names.{is_void}
use Rattle.proto_names.specs.Instances.{missing, with_share, counted_at, after_share}
use Rattle.proto_names.specs.declared.signature.Signature.{Signature}
use Rattle.proto_names.specs.declared.signature.Signature.TheVariants.{Pk, Rlk1, Rlk2}
use Rattle.proto_names.specs.declared.sets.PartySet.{PartySet}
use Rattle.proto_names.specs.declared.instance.Instance.{Instance}
use Rattle.proto_names.specs.declared.instance.Stage.TheVariants.{Opened, Complete}
use Rattle.session_rules.specs.declared.deed.Deed.TheVariants.{Counts}
use Rattle.session_rules.specs.declared.state.CircuitState.{CircuitState}
use Rattle.session_rules.specs.declared.state.CircuitState.TheVariants.{Evaluated, Answered}
use Rattle.session_rules.specs.declared.fixed.Fixed.{Fixed}
use Rattle.session_rules.specs.States.{State, circuit, plan, is_given, has_live, has_done}
use Rattle.session_rules.specs.Issues.{issue}
use Rattle.session_rules.specs.Deeds.{is_last, answered_by, changed}
use Rattle.session_rules.specs.Steps.{is_input}
use Rattle.session_rules.specs.Facts.{is_settled, IsLive, IsSameLater, Kept, IsLater, IsAtRest}
use Rattle.session_rules.proofs.Stepwise.{issue_beside}
use Rattle.session_rules.proofs.Contained.{contains_map, contains_map_from}
use Rattle.session_rules.proofs.Marks.{IsDone, one_number, numbered_at, opened_lives}
use Rattle.session_rules.proofs.MoveKinds.{IsNeeded, key, decryption}
use Rattle.session_rules.proofs.Later.{share_later, later_reflexive, later_transitive}
use Rattle.session_rules.proofs.Shares.{decides_dec, answered_other, answered_its}
use Rattle.session_rules.proofs.Keeps.{Waits, count_next, issue_next}
use Rattle.session_rules.proofs.Deliveries.{keys_stay}
use Rattle.session_rules.proofs.Weights.{issue_ends}
use Rattle.session_rules.proofs.Issued.{live_one, live_from, done_one, done_here, not_before, condition_second, condition_other, decides_second, decides_first, IsWithin, Owes, IsFirm, stayed, lapsed, came, rest_owes, rest_firm, issue_stems}

-- what lives and is new is of a signature that may be issued, and those that are present take part in it
abbrev pub Brought : (Signature → Type 0) → State → State → Type 0
Brought X base s = (i : Instance) → Contains s.instances i → IsLive i → length base.instances < i.id → X i.signature × IsWithin base.present i

-- a circuit is as before, or it is evaluated or answered
abbrev pub Turned : State → State → Type 0
Turned base s = (c : ℕ) → (circuit s.circuits c ≡ circuit base.circuits c) ⊎ (is_settled (circuit s.circuits c) ≡ true)

-- an input that may be given: there is a public key, and its owner is present
pub record IsDue (f : Fixed) (base s : State) (c k : ℕ) : Type 0 where
  pub input : is_input f c k ≡ true
  pub key : has_done Pk s.instances ≡ true
  pub owner : has base.present (slice_index_or (plan f c).owners k 0) ≡ true

abbrev pub Given : Fixed → State → State → Type 0
Given f base s = (c k : ℕ) → is_given s c k ≡ true → (is_given base c k ≡ true) ⊎ IsDue f base s c k

-- there is a public key later too
pub given_later : (f : Fixed) (base s t : State) → IsLater s t → t.given ≡ s.given → Given f base s → Given f base t
given_later f base s t later same given c k e = elim (given c k (subst (λ (z : List (List Bool)). get_or (get_or z c []) k false ≡ true) same e)) [
  | inl before ↦ inl before
  | inr due ↦ inr (record { input = due.input; key = keys_stay s t Pk later (λ h. cc) due.key; owner = due.owner })
]

pub record Reached (X : Signature → Type 0) (f : Fixed) (base s : State) : Type 0 where
  pub kept : Kept f s
  pub later : IsLater base s
  pub present : s.present ≡ base.present
  pub brought : Brought X base s
  pub turned : Turned base s
  pub given : Given f base s

-- and at rest
pub record Within (X : Signature → Type 0) (f : Fixed) (base s : State) : Type 0 where
  pub reached : Reached X f base s
  pub rest : IsAtRest f s

-- which opened first rounds let only such be issued: then a second round may be, and a first one too, or all its parties are present
pub record Fits (X : Signature → Type 0) (s : State) : Type 0 where
  pub closed : X Rlk1 → X Rlk2
  pub second : (i : Instance) → Contains s.instances i → i.stage ≡ Opened → i.signature ≡ Rlk1 → X Rlk2
  pub first : (i : Instance) → Contains s.instances i → i.stage ≡ Opened → i.signature ≡ Rlk1 → X Rlk1 ⊎ IsWithin s.present i

-- ---- the beginning

pub begins : (X : Signature → Type 0) (f : Fixed) (s : State) → Kept f s → IsAtRest f s → Within X f s s
begins X f s k rest = record {
  reached = record {
    kept = k;
    later = later_reflexive s;
    present = refl;
    brought = λ i m alive new. let e = numbered_at s.instances i k.numbered m in let l = m.1 in absurd (omega arith);
    turned = λ c. inl refl;
    given = λ c k e. inl e;
  };
  rest = rest;
}

-- ---- an instance, and what it was

-- an instance that is there later was there at the same place, or is new
pub record Was (is : List Instance) (i : Instance) : Type 0 where
  pub before : Instance
  pub within : Contains is before
  pub same : IsSameLater before i

pub was_or_new : (f : Fixed) (base s : State) (i : Instance) → Kept f s → IsLater base s → Contains s.instances i → (Was base.instances i) ⊎ (length base.instances < i.id)
was_or_new f base s i k later m = elim (cases_lt m.0 (length base.instances)) [
  | inl less ↦ inl (record {
    before = get_or base.instances m.0 i;
    within = Contains-get_or base.instances m.0 i less;
    same = subst (λ (z : Instance). IsSameLater (get_or base.instances m.0 i) z) m.2 (later.same m.0 i less);
  })
  | inr more ↦ let e = numbered_at s.instances i k.numbered m in inr (omega arith)
]

-- so what fits at first fits later
pub fits_later : (X : Signature → Type 0) (f : Fixed) (base s : State) → Fits X base → Reached X f base s → Fits X s
fits_later X f base s fits r = record {
  closed = fits.closed;
  second = λ i m opened first. elim (was_or_new f base s i r.kept r.later m) [
    | inl was ↦ fits.second was.before was.within (was.same.opened opened) (sym was.same.signature ∙ first)
    | inr new ↦ fits.closed (subst X first (r.brought i m (opened_lives i opened) new).0)
  ];
  first = λ i m opened first. elim (was_or_new f base s i r.kept r.later m) [
    | inl was ↦ elim (fits.first was.before was.within (was.same.opened opened) (sym was.same.signature ∙ first)) [
      | inl may ↦ inl may
      | inr there ↦ inr (λ p h. subst (λ (z : ℕ). has z p ≡ true) (sym r.present) (there p (subst (λ (z : PartySet). has z.bits p ≡ true) was.same.set h)))
    ]
    | inr new ↦ inl (subst X first (r.brought i m (opened_lives i opened) new).0)
  ];
}

-- ---- issuing

pub issue_within : (X : Signature → Type 0) (f : Fixed) (base s : State) → Reached X f base s → Owes X f s → (IsFirm s) ⊎ X Rlk1 → Within X f base (issue f s)
issue_within X f base s r owes firm =
    let next = issue_next f s r.kept in
    let beside = issue_beside f s in
    let stems = issue_stems X f s r.kept owes firm in
    record {
      reached = record {
        kept = next.0;
        later = later_transitive base s (issue f s) r.later next.1;
        present = beside.present ∙ r.present;
        brought = λ i m alive new. elim (stems i m) [
          | stayed there ↦ r.brought i there alive new
          | lapsed void ↦ absurd (both_ways (is_void i.stage) alive void)
          | came it ↦ (it.may, λ p h. subst (λ (z : ℕ). has z p ≡ true) r.present (it.within p h))
        ];
        turned = subst (λ (z : List CircuitState). (c : ℕ) → (circuit z c ≡ circuit base.circuits c) ⊎ (is_settled (circuit z c) ≡ true)) (sym beside.circuits) r.turned;
        given = given_later f base s (issue f s) next.1 beside.given r.given;
      };
      rest = issue_ends f s r.kept;
    }

-- ---- a share that is counted

share_lives : (p : ℕ) (i : Instance) → IsLive (with_share p i)
unfolding with_share
share_lives p i = at (nat_eq (missing p i) 0)
  where
    at : (b : Bool) → is_void (if b then Complete else Opened) ≡ false
    at true = refl
    at false = refl

pub data CountedFrom (is : List Instance) (i : Instance) (p : ℕ) (j : Instance) : Type 0 where
  itself : j ≡ with_share p i → CountedFrom is i p j
  another : Contains is j → j.id ≢ i.id → CountedFrom is i p j

pub counted_from : (is : List Instance) (i j : Instance) (p : ℕ) → ((a : Instance) → Contains is a → a.id ≡ i.id → a ≡ i) → Contains (after_share i.id p is) j → CountedFrom is i p j
unfolding after_share
counted_from is i j p same_ m =
    let c = contains_map_from (counted_at i.id p) is j m in
    at c.source c.within c.same (nat_eq c.source.id i.id) refl
  where
    at : (a : Instance) → Contains is a → counted_at i.id p a ≡ j → (b : Bool) → nat_eq a.id i.id ≡ b → CountedFrom is i p j
    at a n e true h = itself (sym e ∙ rw h (ap (with_share p) (same_ a n (eqb-true a.id i.id h))))
    at a n e false h =
        let stays : counted_at i.id p a ≡ a = rw h refl in
        let it : a ≡ j = sym stays ∙ e in
        another (subst (λ (z : Instance). Contains is z) it n) (subst (λ (z : Instance). z.id ≢ i.id) it (eqb-false a.id i.id h))

-- and what lived lives on
lives_on : (is : List Instance) (i : Instance) (p : ℕ) (σ : Signature) → ((a : Instance) → Contains is a → a.id ≡ i.id → a ≡ i) → i.stage ≡ Opened → has_live σ is ≡ true → has_live σ (after_share i.id p is) ≡ true
unfolding after_share
lives_on is i p σ same_ opened h =
    let l = live_one σ is h in
    let a = l.item in
    live_from σ (map (counted_at i.id p) is) (record {
      item = counted_at i.id p a;
      within = contains_map (counted_at i.id p) is a l.within;
      signature = mark a l.within (nat_eq a.id i.id) refl ∙ l.signature;
      lives = alive a (nat_eq a.id i.id) l.lives;
    })
  where
    mark : (a : Instance) → Contains is a → (b : Bool) → nat_eq a.id i.id ≡ b → (if b then with_share p a else a).signature ≡ a.signature
    mark a m true e = (share_later a p (ap (λ (z : Instance). z.stage) (same_ a m (eqb-true a.id i.id e)) ∙ opened)).signature
    mark a m false e = refl

    alive : (a : Instance) (b : Bool) → IsLive a → IsLive (if b then with_share p a else a)
    alive a true h = share_lives p a
    alive a false h = h

module _ (X : Signature → Type 0) (f : Fixed) (base s : State) (w : Within X f base s) (fits : Fits X s) (i : Instance) (p : ℕ) (its : Waits s i p) where
  abbrev counted_state : State
  counted_state = changed (Counts i p) s

  there : Contains s.instances i
  there = its.within

  opened : i.stage ≡ Opened
  opened = its.opened

  alive : IsLive i
  alive = opened_lives i opened

  same_one : (a : Instance) → Contains s.instances a → a.id ≡ i.id → a ≡ i
  same_one a m e = one_number s.instances a i w.reached.kept.numbered m there e

  -- the circuit of a decryption was evaluated
  circuit_then : (c : ℕ) → (circuit counted_state.circuits c ≡ circuit s.circuits c) ⊎ (circuit counted_state.circuits c ≡ Answered)
  unfolding changed
  circuit_then c = at (is_last p i)
    where
      at : (b : Bool) → (circuit (cond b (answered_by i.signature s.circuits) s.circuits) c ≡ circuit s.circuits c) ⊎ (circuit (cond b (answered_by i.signature s.circuits) s.circuits) c ≡ Answered)
      at true = elim (decides_dec i.signature c) [
        | inl mark ↦ inr (answered_its i.signature s.circuits c mark)
        | inr none ↦ inl (answered_other i.signature s.circuits c none)
      ]
      at false = inl refl

  pub count_reached : Reached X f base counted_state
  unfolding changed
  count_reached =
      let r = w.reached in
      let next = count_next f s i p its r.kept in
      record {
        kept = next.0;
        later = later_transitive base s counted_state r.later next.1;
        present = r.present;
        brought = λ j m living new. elim (counted_from s.instances i j p same_one m) [
          | itself e ↦
              let l = share_later i p opened in
              let ids : j.id ≡ i.id = ap (λ (z : Instance). z.id) e ∙ l.id in
              let was = r.brought i there alive (subst (λ (z : ℕ). length base.instances < z) ids new) in (
                subst X (sym (ap (λ (z : Instance). z.signature) e ∙ l.signature)) was.0,
                λ q h. was.1 q (subst (λ (z : PartySet). has z.bits q ≡ true) (ap (λ (z : Instance). z.set) e ∙ l.set) h),
              )
          | another n apart ↦ r.brought j n living new
        ];
        turned = λ c. elim (circuit_then c) [
          | inr answered ↦ inr (rw answered refl)
          | inl e ↦ elim (r.turned c) [
            | inl before ↦ inl (e ∙ before)
            | inr settled ↦ inr (rw e settled)
          ]
        ];
        given = given_later f base s counted_state next.1 refl r.given;
      }

  needed_before : (σ : Signature) → IsNeeded f counted_state.circuits σ → IsNeeded f s.circuits σ
  needed_before σ (key m) = key m
  needed_before σ (decryption c mark m evaluated) = elim (circuit_then c) [
    | inl e ↦ decryption c mark (subst (λ (z : ℕ). Contains (range_with_len 0 z) c) many m) (sym e ∙ evaluated)
    | inr e ↦ let n : Answered ≡ Evaluated = sym e ∙ evaluated in cc
  ]
    where
      many : length counted_state.circuits ≡ length s.circuits
      many = count_reached.kept.circuits ∙ sym w.reached.kept.circuits

  -- a complete first round is that one, or was complete before
  done_before : (j : Instance) → Contains counted_state.instances j → IsDone Rlk1 j → ((Contains s.instances j) ⊎ ((j ≡ with_share p i) × (i.signature ≡ Rlk1)))
  unfolding changed
  done_before j m d = elim (counted_from s.instances i j p same_one m) [
    | another n apart ↦ inl n
    | itself e ↦ inr (e, sym (ap (λ (z : Instance). z.signature) e ∙ (share_later i p opened).signature) ∙ d.signature)
  ]

  count_owes : Owes X f counted_state
  unfolding changed
  count_owes σ needed none stands =
      let none_ = not_before (has_live σ s.instances) (has_live σ counted_state.instances) (lives_on s.instances i p σ same_one opened) none in
      let none_owed = rest_owes f s w.rest σ (needed_before σ needed) none_ in
      elim (decides_second σ) [
        | inr n ↦ absurd (none_owed (condition_other f s σ n ∙ sym (condition_other f counted_state σ n) ∙ stands))
        | inl e ↦
            let d = done_one Rlk1 counted_state.instances (sym (condition_second f counted_state σ e) ∙ stands) in
            elim (done_before d.item d.within d.done) [
              | inl n ↦ absurd (none_owed (condition_second f s σ e ∙ done_here Rlk1 s.instances d.item n d.done))
              | inr done ↦ subst X (sym e) (fits.second i there opened done.1)
            ]
      ]

  count_firm : (i.signature ≡ Rlk1 → IsWithin s.present i) → IsFirm counted_state
  unfolding changed
  count_firm all j m d none =
      let none_ = not_before (has_live Rlk2 s.instances) (has_live Rlk2 counted_state.instances) (lives_on s.instances i p Rlk2 same_one opened) none in
      elim (done_before j m d) [
        | inl n ↦ rest_firm f s w.reached.kept w.rest j n d none_
        | inr it ↦ λ q h. all it.1 q (subst (λ (z : PartySet). has z.bits q ≡ true) (ap (λ (z : Instance). z.set) it.0 ∙ (share_later i p opened).set) h)
      ]

  count_firm_or : (IsFirm counted_state) ⊎ X Rlk1
  count_firm_or = elim (decides_first i.signature) [
    | inr n ↦ inl (count_firm (λ e. absurd (n e)))
    | inl first ↦ elim (fits.first i there opened first) [
      | inl may ↦ inr may
      | inr all ↦ inl (count_firm (λ e. all))
    ]
  ]

  pub last_within : Within X f base (issue f counted_state)
  last_within = issue_within X f base counted_state count_reached count_owes count_firm_or
