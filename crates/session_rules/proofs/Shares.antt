-- What a share that is counted does to the facts about instances and circuits.
use Rattle.std.proofs.Common.{◌≡◌, ◌∙◌, sym, ap, subst, refl, ℕ, ◌≤◌, Bool, true, false, nat_eq, cond, ◌⊎◌, inl, inr, List, length, set, Contains, arith, length-set}
use Rattle.std.specs.Prelude.{if◌then◌else◌}
use Rattle.std.proofs.lemmas.Bool.{both_ways, cases_Bool, cases_eq, cases_lt, eqb-true, eqb-false, eq-eqb, false_from_ne_true}
use Rattle.std.proofs.lemmas.List.{get_or-set_other, get_or-set_same, get_or_past}
use Rattle.share_spec.specs.Sets.{has}
use Rattle.proto_names.specs.Groups.{with_party, number_outside}
use Rattle.proto_names.specs.Instances.{missing, with_share, counted_at, after_share}
use Rattle.proto_names.specs.declared.signature.Signature.{Signature}
use Rattle.proto_names.specs.declared.signature.Signature.TheVariants.{Pk, Rlk1, Rlk2, Rot, Dec}
use Rattle.proto_names.specs.declared.instance.Instance.{Instance}
use Rattle.proto_names.specs.declared.instance.Stage.TheVariants.{Opened, Complete}
use Rattle.session_rules.specs.declared.deed.Deed.TheVariants.{Counts}
use Rattle.session_rules.specs.declared.state.CircuitState.{CircuitState}
use Rattle.session_rules.specs.declared.state.CircuitState.TheVariants.{Answered}
use Rattle.session_rules.specs.declared.fixed.Fixed.{Fixed}
use Rattle.session_rules.specs.States.{State, circuit, is_refused}
use Rattle.session_rules.specs.Deeds.{is_last, answered_by, changed}
use Rattle.session_rules.specs.Facts.{IsLive, IsSameLater, IsSound, Decrypts, Kept}
use Rattle.session_rules.proofs.Marks.{IsDone, one_number, opened_lives, live_cases}
use Rattle.session_rules.proofs.PartySets.{has_party, with_keeps, with_cases, with_small, nobody_outside}
use Rattle.session_rules.proofs.Later.{share_later, where_so, StayAdmitted, circuits_reflexive, set_admitted}
use Rattle.session_rules.proofs.Ordered.{numbered_map, one_map, each_map, rounds_map}

-- ---- a live instance that lacks a share is opened

pub lacking_opened : (f : Fixed) (present : ℕ) (i : Instance) (p : ℕ) → IsSound f present i → IsLive i → has i.set.bits p ≡ true → has i.sent.bits p ≡ false → i.stage ≡ Opened
lacking_opened f present i p s alive member unsent = elim (live_cases i.stage alive) [
  | inl opened ↦ opened
  | inr complete ↦ absurd (both_ways (has i.sent.bits p) unsent (nobody_outside i.set.bits i.sent.bits p (s.complete complete) member))
]

-- ---- circuits

-- a circuit whose decryption it isn't stays
pub answered_other : (σ : Signature) (circuits : List CircuitState) (c : ℕ) → (σ ≡ Dec c → ⊥) → circuit (answered_by σ circuits) c ≡ circuit circuits c
unfolding answered_by
answered_other Pk circuits c n = refl
answered_other Rlk1 circuits c n = refl
answered_other Rlk2 circuits c n = refl
answered_other (Rot g) circuits c n = refl
answered_other (Dec d) circuits c n = get_or-set_other circuits d c Answered Answered (λ e. n (ap Dec (sym e)))

-- and the circuit whose decryption it is is answered
answered_at : (circuits : List CircuitState) (c : ℕ) → circuit (set circuits c Answered) c ≡ Answered
answered_at circuits c = elim (cases_lt c (length circuits)) [
  | inl less ↦ get_or-set_same circuits c Answered Answered less
  | inr more ↦ get_or_past (set circuits c Answered) c Answered (omega (arith, length-set circuits c Answered))
]

pub answered_its : (σ : Signature) (circuits : List CircuitState) (c : ℕ) → σ ≡ Dec c → circuit (answered_by σ circuits) c ≡ Answered
unfolding answered_by
answered_its σ circuits c e = rw e (answered_at circuits c)

pub decides_dec : (σ : Signature) (c : ℕ) → (σ ≡ Dec c) ⊎ (σ ≡ Dec c → ⊥)
decides_dec Pk c = inr (λ e. cc)
decides_dec Rlk1 c = inr (λ e. cc)
decides_dec Rlk2 c = inr (λ e. cc)
decides_dec (Rot g) c = inr (λ e. cc)
decides_dec (Dec d) c = elim (cases_eq d c) [
  | inl e ↦ inl (ap Dec e)
  | inr n ↦ inr (λ e. n cc)
]

answered_kept : (σ : Signature) (circuits : List CircuitState) (c : ℕ) → circuit circuits c ≡ Answered → circuit (answered_by σ circuits) c ≡ Answered
answered_kept σ circuits c e = elim (decides_dec σ c) [
  | inl its ↦ answered_its σ circuits c its
  | inr other ↦ answered_other σ circuits c other ∙ e
]

answered_admitted : (σ : Signature) (circuits : List CircuitState) → ((c : ℕ) → σ ≡ Dec c → is_refused (circuit circuits c) ≡ false) → StayAdmitted circuits (answered_by σ circuits)
unfolding answered_by
answered_admitted Pk circuits h = circuits_reflexive circuits
answered_admitted Rlk1 circuits h = circuits_reflexive circuits
answered_admitted Rlk2 circuits h = circuits_reflexive circuits
answered_admitted (Rot g) circuits h = circuits_reflexive circuits
answered_admitted (Dec c) circuits h = set_admitted circuits c Answered (h c refl) refl (λ e. refl) (λ e. refl)

-- ---- the share

module _ (f : Fixed) (s : State) (k : Kept f s) (i : Instance) (p : ℕ)
    (within : Contains s.instances i) (opened : i.stage ≡ Opened) (member : has i.set.bits p ≡ true) (unsent : has i.sent.bits p ≡ false) where
  abbrev is : List Instance
  is = s.instances

  abbrev circuits : List CircuitState
  circuits = s.circuits

  -- the instance with its number is itself
  itself : (a : Instance) → Contains is a → nat_eq a.id i.id ≡ true → i ≡ a
  itself a m e = one_number is i a k.numbered within m (sym (eqb-true a.id i.id e))

  pub share_all_later : (a : Instance) → Contains is a → IsSameLater a (counted_at i.id p a)
  share_all_later a m = where_so a (with_share p a) (nat_eq a.id i.id) (λ e. share_later a p (subst (λ (z : Instance). z.stage ≡ Opened) (itself a m e) opened))

  -- a fact of each by the test
  by_test : (P : Instance → Type 0) (a : Instance) → Contains is a → P (with_share p i) → (nat_eq a.id i.id ≡ false → P a) → P (counted_at i.id p a)
  by_test P a m its other = at (nat_eq a.id i.id) refl
    where
      at : (b : Bool) → nat_eq a.id i.id ≡ b → P (if b then with_share p a else a)
      at true e = subst (λ (z : Instance). P (with_share p z)) (itself a m e) its
      at false e = other e

  share_sound : IsSound f s.present i → IsSound f s.present (with_share p i)
  unfolding with_share missing
  share_sound x =
      let range = has_party i.set.bits p member in
      record {
        set = x.set;
        parties = x.parties;
        sent = with_small i.sent.bits p x.sent range.1;
        senders = λ q h. elim (with_cases i.sent.bits p q range.0 h) [
          | inl same_party ↦ subst (λ (z : ℕ). has i.set.bits z ≡ true) (sym same_party) member
          | inr old ↦ x.senders q old
        ];
        complete = λ e. done (number_outside i.set.bits (with_party i.sent.bits p)) e;
        opened = λ l e. more (number_outside i.set.bits (with_party i.sent.bits p)) e;
        awaited = λ e q h n. x.awaited opened q h (false_from_ne_true (has i.sent.bits q) (λ old. both_ways (has (with_party i.sent.bits p) q) n (with_keeps i.sent.bits p q old)));
      }
    where
      by_zero : (n : ℕ) (b : Bool) → nat_eq n 0 ≡ b → (if b then Complete else Opened) ≡ Complete → n ≡ 0
      by_zero n true z e = eqb-true n 0 z
      by_zero n false z e = cc

      done : (n : ℕ) → (if nat_eq n 0 then Complete else Opened) ≡ Complete → n ≡ 0
      done n e = by_zero n (nat_eq n 0) refl e

      by_one : (n : ℕ) (b : Bool) → nat_eq n 0 ≡ b → (if b then Complete else Opened) ≡ Opened → 1 ≤ n
      by_one n true z e = cc
      by_one n false z e = let none = eqb-false n 0 z in elim (cases_eq n 0) [
        | inl at ↦ absurd (none at)
        | inr at ↦ omega arith
      ]

      more : (n : ℕ) → (if nat_eq n 0 then Complete else Opened) ≡ Opened → 1 ≤ n
      more n e = by_one n (nat_eq n 0) refl e

  -- the circuits then
  abbrev counted_circuits : List CircuitState
  counted_circuits = cond (is_last p i) (answered_by i.signature circuits) circuits

  -- the circuit of its decryption isn't refused
  its_admitted : (c : ℕ) → i.signature ≡ Dec c → is_refused (circuit circuits c) ≡ false
  its_admitted c e = rw ((k.decrypts i within).opened c e opened) refl

  last_decrypts : nat_eq (missing p i) 0 ≡ true → (a : Instance) → Contains is a → Decrypts circuits a → Decrypts (answered_by i.signature circuits) (counted_at i.id p a)
  unfolding with_share
  last_decrypts last a m d = by_test (λ z. Decrypts (answered_by i.signature circuits) z) a m
      (record {
        opened = λ c e (open_still : (if nat_eq (missing p i) 0 then Complete else Opened) ≡ Opened). let closed : (if nat_eq (missing p i) 0 then Complete else Opened) ≡ Complete = rw last refl in cc;
        complete = λ c e done. answered_its i.signature circuits c e;
        settled = λ c e. rw (answered_its i.signature circuits c e) refl;
      })
      (λ differs. record {
        opened = λ c e waits. elim (decides_dec i.signature c) [
          | inl its ↦
              let ids : a.id ≡ i.id = k.one a i m within (e ∙ sym its) (opened_lives a waits) (opened_lives i opened) in
              absurd (both_ways (nat_eq a.id i.id) differs (eq-eqb a.id i.id ids))
          | inr other ↦ answered_other i.signature circuits c other ∙ d.opened c e waits
        ];
        complete = λ c e done. answered_kept i.signature circuits c (d.complete c e done);
        settled = λ c e. (answered_admitted i.signature circuits its_admitted).evaluated c (d.settled c e);
      })

  more_decrypts : nat_eq (missing p i) 0 ≡ false → (a : Instance) → Contains is a → Decrypts circuits a → Decrypts circuits (counted_at i.id p a)
  unfolding with_share
  more_decrypts more a m d = by_test (λ z. Decrypts circuits z) a m
      (record {
        opened = λ c e waits. (k.decrypts i within).opened c e opened;
        complete = λ c e (closed : (if nat_eq (missing p i) 0 then Complete else Opened) ≡ Complete). let open_still : (if nat_eq (missing p i) 0 then Complete else Opened) ≡ Opened = rw more refl in cc;
        settled = (k.decrypts i within).settled;
      })
      (λ differs. d)

  share_decrypts : (a : Instance) → Contains is a → Decrypts circuits a → Decrypts counted_circuits (counted_at i.id p a)
  share_decrypts a m d = elim (cases_Bool (nat_eq (missing p i) 0)) [
    | inl last ↦ rw last (last_decrypts last a m d)
    | inr more ↦ rw more (more_decrypts more a m d)
  ]

  share_first : (a first : Instance) → Contains is a → a.signature ≡ Rlk2 → IsLive (counted_at i.id p a) → Contains is first → IsDone Rlk1 first → first.id ≡ a.round1 → (counted_at i.id p first).stage ≡ Complete
  share_first a first m second alive n done e = at (nat_eq first.id i.id) refl
    where
      at : (b : Bool) → nat_eq first.id i.id ≡ b → (if b then with_share p first else first).stage ≡ Complete
      at true e = let x = done.complete in let y : first.stage ≡ Opened = subst (λ (z : Instance). z.stage ≡ Opened) (itself first n e) opened in cc
      at false e = done.complete

  pub share_admitted : StayAdmitted circuits counted_circuits
  share_admitted = elim (cases_Bool (nat_eq (missing p i) 0)) [
    | inl last ↦ rw last (answered_admitted i.signature circuits its_admitted)
    | inr more ↦ rw more (circuits_reflexive circuits)
  ]

  pub share_kept : Kept f (changed (Counts i p) s)
  unfolding after_share changed
  share_kept =
      let g = counted_at i.id p in
      record {
        circuits = share_admitted.length ∙ k.circuits;
        given = k.given;
        numbered = numbered_map g is share_all_later k.numbered;
        one = one_map g is share_all_later k.one;
        sound = each_map g is (λ a. IsSound f s.present a) (λ a. IsSound f s.present a) (λ a m x. by_test (λ z. IsSound f s.present z) a m (share_sound (k.sound i within)) (λ _. x)) k.sound;
        decrypts = each_map g is (λ a. Decrypts circuits a) (λ a. Decrypts counted_circuits a) share_decrypts k.decrypts;
        rounds = rounds_map g is share_all_later share_first k.rounds;
      }
