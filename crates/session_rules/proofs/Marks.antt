-- Signatures, stages, and the instance with a number.
use Rattle.std.proofs.Common.{◌≡◌, ◌∙◌, sym, ap, ap₂, refl, ℕ, zero, suc, ◌+◌, ◌-◌, Bool, true, false, not, nat_eq, ◌&&◌, cond, ◌⊎◌, inl, inr, List, length, get_or, Contains, Some, None, arith}
use Rattle.std.specs.List.{slice_get}
use Rattle.std.proofs.lemmas.Bool.{and_parts, and_from, eqb-true, eqb-false, eq-eqb, ne_eqb, cases_eq, both_ways, not_from_false, not-true}
use Rattle.std.proofs.lemmas.List.{get_or_default}
use Rattle.std.proofs.lemmas.Option.{slice_get_within, slice_get_read, get_or_from_slice_get}
use Rattle.proto_names.specs.Names.{same, kind, subject, is_opened, is_complete, is_void}
use Rattle.proto_names.specs.Instances.{instance, lives, is_done, lacks}
use Rattle.share_spec.specs.Sets.{has}
use Rattle.proto_names.specs.declared.signature.Signature.{Signature}
use Rattle.proto_names.specs.declared.signature.Signature.TheVariants.{Pk, Rlk1, Rlk2, Rot, Dec}
use Rattle.proto_names.specs.declared.instance.Instance.{Instance}
use Rattle.proto_names.specs.declared.instance.Stage.{Stage}
use Rattle.proto_names.specs.declared.instance.Stage.TheVariants.{Opened, Complete, Void}
use Rattle.session_rules.specs.States.{has_live}
use Rattle.session_rules.specs.Facts.{IsLive, Numbered}
use Rattle.session_rules.proofs.Contained.{any_false}

-- ---- signatures

-- the signature of a kind for a subject
abbrev built : ℕ → ℕ → Signature
built zero s = Pk
built (suc zero) s = Rlk1
built (suc (suc zero)) s = Rlk2
built (suc (suc (suc zero))) s = Rot s
built (suc (suc (suc (suc k)))) s = Dec s

built_again : (a : Signature) → built (kind a) (subject a) ≡ a
built_again Pk = refl
built_again Rlk1 = refl
built_again Rlk2 = refl
built_again (Rot g) = refl
built_again (Dec c) = refl

pub same_is : (a b : Signature) → same a b ≡ true → a ≡ b
unfolding same
same_is a b h =
    let both = and_parts (nat_eq (kind a) (kind b)) (nat_eq (subject a) (subject b)) h in
    sym (built_again a) ∙ ap₂ built (eqb-true (kind a) (kind b) both.0) (eqb-true (subject a) (subject b) both.1) ∙ built_again b

pub same_self : (a : Signature) → same a a ≡ true
unfolding same
same_self a = and_from (nat_eq (kind a) (kind a)) (nat_eq (subject a) (subject a)) (eq-eqb (kind a) (kind a) refl) (eq-eqb (subject a) (subject a) refl)

-- ---- stages

pub complete_is : (stage : Stage) → is_complete stage ≡ true → stage ≡ Complete
complete_is Opened e = cc
complete_is Complete e = refl
complete_is (Void by) e = cc

pub opened_is : (stage : Stage) → is_opened stage ≡ true → stage ≡ Opened
opened_is Opened e = refl
opened_is Complete e = cc
opened_is (Void by) e = cc

-- a live one is opened or complete
pub live_cases : (stage : Stage) → is_void stage ≡ false → (stage ≡ Opened) ⊎ (stage ≡ Complete)
live_cases Opened e = inl refl
live_cases Complete e = inr refl
live_cases (Void by) e = cc

pub opened_lives : (i : Instance) → i.stage ≡ Opened → IsLive i
opened_lives i e = rw e refl

pub complete_lives : (i : Instance) → i.stage ≡ Complete → IsLive i
complete_lives i e = rw e refl

pub lives_from : (σ : Signature) (i : Instance) → i.signature ≡ σ → IsLive i → lives σ i ≡ true
unfolding lives
lives_from σ i e h = and_from (same i.signature σ) (not (is_void i.stage)) (rw e (same_self σ)) (not_from_false (is_void i.stage) h)

pub lives_is : (σ : Signature) (i : Instance) → lives σ i ≡ true → (i.signature ≡ σ) × IsLive i
unfolding lives
lives_is σ i h = let both = and_parts (same i.signature σ) (not (is_void i.stage)) h in (same_is i.signature σ both.0, not-true (is_void i.stage) both.1)

-- a complete instance of a signature
pub record IsDone (σ : Signature) (i : Instance) : Type 0 where
  pub signature : i.signature ≡ σ
  pub complete : i.stage ≡ Complete

pub done_is : (σ : Signature) (i : Instance) → is_done σ i ≡ true → IsDone σ i
unfolding is_done
done_is σ i h =
    let both = and_parts (same i.signature σ) (is_complete i.stage) h in
    record { signature = same_is i.signature σ both.0; complete = complete_is i.stage both.1 }

pub done_from : (σ : Signature) (i : Instance) → IsDone σ i → is_done σ i ≡ true
unfolding is_done
done_from σ i d = and_from (same i.signature σ) (is_complete i.stage) (rw d.signature (same_self σ)) (rw d.complete refl)

-- it is opened and lacks a share
pub record Lacks (p : ℕ) (i : Instance) : Type 0 where
  pub opened : i.stage ≡ Opened
  pub member : has i.set.bits p ≡ true
  pub unsent : has i.sent.bits p ≡ false

pub lacks_is : (p : ℕ) (i : Instance) → lacks p i ≡ true → Lacks p i
unfolding lacks
lacks_is p i h =
    let both = and_parts (is_opened i.stage && has i.set.bits p) (not (has i.sent.bits p)) h in
    let two = and_parts (is_opened i.stage) (has i.set.bits p) both.0 in
    record { opened = opened_is i.stage two.0; member = two.1; unsent = not-true (has i.sent.bits p) both.1 }

pub lacks_from : (p : ℕ) (i : Instance) → Lacks p i → lacks p i ≡ true
unfolding lacks
lacks_from p i l =
    and_from (is_opened i.stage && has i.set.bits p) (not (has i.sent.bits p))
    (and_from (is_opened i.stage) (has i.set.bits p) (rw l.opened refl) l.member) (not_from_false (has i.sent.bits p) l.unsent)

-- ---- lists of instances

-- no instance of a signature lives where the test says so
pub none_lives : (σ : Signature) (is : List Instance) (i : Instance) → has_live σ is ≡ false → Contains is i → i.signature ≡ σ → IsLive i → ⊥
unfolding has_live
none_lives σ is i none m e h = both_ways (lives σ i) (any_false (lives σ) is i none m) (lives_from σ i e h)

-- with numbers, those of one number are one
pub numbered_at : (is : List Instance) (i : Instance) → Numbered is → (m : Contains is i) → i.id ≡ m.0 + 1
numbered_at is i n m = ap (λ (j : Instance). j.id) (sym m.2) ∙ n m.0 i m.1

pub one_number : (is : List Instance) (i j : Instance) → Numbered is → Contains is i → Contains is j → i.id ≡ j.id → i ≡ j
one_number is i j n a b e =
    let p = numbered_at is i n a in let q = numbered_at is j n b in
    let place : a.0 ≡ b.0 = omega arith in
    sym a.2 ∙ ap (λ (k : ℕ). get_or is k i) place ∙ get_or_default is b.0 i j b.1 ∙ b.2

-- the instance that is found by a number
not_zero : (is : List Instance) (id : ℕ) (i : Instance) (b : Bool) → cond b None (slice_get is (id - 1)) ≡ Some i → slice_get is (id - 1) ≡ Some i
not_zero is id i true e = cc
not_zero is id i false e = e

pub instance_within : (is : List Instance) (id : ℕ) (i : Instance) → instance is id ≡ Some i → Contains is i
unfolding instance
instance_within is id i e =
    let got : slice_get is (id - 1) ≡ Some i = not_zero is id i (nat_eq id 0) e in
    (id - 1, slice_get_within is (id - 1) i got, get_or_from_slice_get is (id - 1) i i got)

pub instance_id : (is : List Instance) (id : ℕ) (i : Instance) → Numbered is → instance is id ≡ Some i → i.id ≡ id
unfolding instance
instance_id is id i n e =
    let got = slice_get_within is (id - 1) i (not_zero is id i (nat_eq id 0) e) in
    let at = numbered_at is i n (id - 1, got, get_or_from_slice_get is (id - 1) i i (not_zero is id i (nat_eq id 0) e)) in
    some_number (nat_eq id 0) refl e at
  where
    some_number : (b : Bool) → nat_eq id 0 ≡ b → cond b None (slice_get is (id - 1)) ≡ Some i → i.id ≡ id - 1 + 1 → i.id ≡ id
    some_number true h f at = cc
    some_number false h f at = let none = eqb-false id 0 h in elim (cases_eq id 0) [
      | inl z ↦ absurd (none z)
      | inr z ↦ omega arith
    ]

-- and the instance with its number is found
pub found : (is : List Instance) (i : Instance) → Numbered is → Contains is i → instance is i.id ≡ Some i
unfolding instance
found is i n m =
    let e = numbered_at is i n m in
    let some_ : nat_eq i.id 0 ≡ false = ne_eqb i.id 0 (λ z. absurd (omega arith)) in
    let place : i.id - 1 ≡ m.0 = omega arith in
    rw some_ (rw place (slice_get_read is (length is) m.0 i refl m.1 (sym m.2)))
