-- What a loss, a share and a given-up first round do to the facts about instances.
use Rattle.std.proofs.Common.{◌≡◌, ◌∙◌, sym, subst, refl, ℕ, ◌≤◌, Bool, true, false, nat_eq, ◌&&◌, ◌⊎◌, inl, inr, List, Contains}
use Rattle.std.specs.Prelude.{if◌then◌else◌}
use Rattle.std.specs.List.{list_any}
use Rattle.std.proofs.lemmas.Bool.{both_ways, eqb-true, and_parts, or_cases, or_left, or_from, false_from_ne_true}
use Rattle.share_spec.specs.Sets.{has}
use Rattle.proto_names.specs.Names.{same}
use Rattle.proto_names.specs.Groups.{without_party}
use Rattle.proto_names.specs.Instances.{lacks, given_up, after_void}
use Rattle.proto_names.specs.declared.signature.Signature.TheVariants.{Rlk1, Rlk2}
use Rattle.proto_names.specs.declared.instance.Instance.{Instance}
use Rattle.proto_names.specs.declared.instance.Stage.TheVariants.{Opened, Complete, Void}
use Rattle.session_rules.specs.declared.state.CircuitState.{CircuitState}
use Rattle.session_rules.specs.declared.fixed.Fixed.{Fixed}
use Rattle.session_rules.specs.States.{State, has_live}
use Rattle.session_rules.specs.Deeds.{lacks_for, falls, fallen, after_loss}
use Rattle.session_rules.specs.Facts.{IsLive, IsSameLater, IsSound, Decrypts, Kept}
use Rattle.session_rules.proofs.Contained.{any_true}
use Rattle.session_rules.proofs.Marks.{IsDone, Lacks, lacks_is, lacks_from, one_number, same_is, none_lives, opened_lives}
use Rattle.session_rules.proofs.PartySets.{without_keeps}
use Rattle.session_rules.proofs.Later.{void_later, where_so, later_lives}
use Rattle.session_rules.proofs.Ordered.{numbered_map, one_map, each_map, rounds_map}

-- ---- a void one

void_sound : (f : Fixed) (before now : ℕ) (a : Instance) (by : ℕ) → IsSound f before a → IsSound f now (record a { stage = Void by })
void_sound f before now a by s = record {
  set = s.set;
  parties = s.parties;
  sent = s.sent;
  senders = s.senders;
  complete = λ e. cc;
  opened = λ l e. cc;
  awaited = λ e p h n. cc;
}

-- its circuit is as far as before
void_decrypts : (circuits : List CircuitState) (a : Instance) (by : ℕ) → Decrypts circuits a → Decrypts circuits (record a { stage = Void by })
void_decrypts circuits a by d = record { opened = λ c e o. cc; complete = λ c e o. cc; settled = d.settled }

-- a fact of a changed one, by the test
either_one : (P : Instance → Type 0) (b : Bool) (now a : Instance) → (b ≡ true → P now) → (b ≡ false → P a) → P (if b then now else a)
either_one P true now a yes_ no_ = yes_ refl
either_one P false now a yes_ no_ = no_ refl

-- ---- rule 1: a complete first round is given up

pub give_up_later : (f : Fixed) (s : State) (i : Instance) (by : ℕ) → Kept f s → Contains s.instances i → IsDone Rlk1 i → (a : Instance) → Contains s.instances a → IsSameLater a (given_up i.id by a)
give_up_later f s i by k within done a m =
    where_so a (record a { stage = Void by }) (nat_eq a.id i.id)
    (λ e. void_later a by (inr (subst (λ (z : Instance). IsDone Rlk1 z) (one_number s.instances i a k.numbered within m (sym (eqb-true a.id i.id e))) done)))

pub give_up_kept : (f : Fixed) (s : State) (i : Instance) (by : ℕ) → Kept f s → Contains s.instances i → IsDone Rlk1 i → has_live Rlk2 s.instances ≡ false → Kept f (record s { instances = after_void i.id by s.instances })
unfolding after_void
give_up_kept f s i by k within done none =
    let is = s.instances in
    let g = given_up i.id by in
    let later = give_up_later f s i by k within done in
    record {
      circuits = k.circuits;
      given = k.given;
      numbered = numbered_map g is later k.numbered;
      one = one_map g is later k.one;
      sound = each_map g is (λ a. IsSound f s.present a) (λ a. IsSound f s.present a)
          (λ a m s_. either_one (λ b. IsSound f s.present b) (nat_eq a.id i.id) (record a { stage = Void by }) a (λ e. void_sound f s.present s.present a by s_) (λ e. s_)) k.sound;
      decrypts = each_map g is (λ a. Decrypts s.circuits a) (λ a. Decrypts s.circuits a)
          (λ a m s_. either_one (λ b. Decrypts s.circuits b) (nat_eq a.id i.id) (record a { stage = Void by }) a (λ e. void_decrypts s.circuits a by s_) (λ e. s_)) k.decrypts;
      rounds = rounds_map g is later
          (λ a first m second alive n d e. absurd (none_lives Rlk2 is a none m second (later_lives a (g a) (later a m) alive))) k.rounds;
    }

-- ---- a party is lost

module _ (f : Fixed) (s : State) (k : Kept f s) (p : ℕ) where
  abbrev is : List Instance
  is = s.instances

  -- the opened second round of a first one, which lacks the share of the lost party
  record Waits (first : Instance) : Type 0 where
    second : Instance
    within : Contains is second
    signature : second.signature ≡ Rlk2
    round1 : second.round1 ≡ first.id
    waits : Lacks p second

  waits_is : (first : Instance) → list_any (lacks_for p first.id) is ≡ true → Waits first
  waits_is first e =
      let x = any_true (lacks_for p first.id) is e in
      let both = and_parts (same x.item.signature Rlk2 && nat_eq x.item.round1 first.id) (lacks p x.item) x.passes in
      let two = and_parts (same x.item.signature Rlk2) (nat_eq x.item.round1 first.id) both.0 in
      record { second = x.item; within = x.within; signature = same_is x.item.signature Rlk2 two.0; round1 = eqb-true x.item.round1 first.id two.1; waits = lacks_is p x.item both.1 }

  -- what falls was opened, or a complete first round
  falls_is : (a : Instance) → Contains is a → falls p is a ≡ true → (a.stage ≡ Opened) ⊎ IsDone Rlk1 a
  unfolding falls
  falls_is a m e = elim (or_cases (lacks p a) (list_any (lacks_for p a.id) is) e) [
    | inl lost ↦ inl (lacks_is p a lost).opened
    | inr second ↦
        let w = waits_is a second in
        let h = k.rounds w.second w.within w.signature (opened_lives w.second w.waits.opened) in
        let same_one : h.first ≡ a = one_number is h.first a k.numbered h.issued m (h.id ∙ w.round1) in
        inr (subst (λ (z : Instance). IsDone Rlk1 z) same_one (record { signature = h.signature; complete = h.complete }))
  ]

  pub loss_later : (a : Instance) → Contains is a → IsSameLater a (fallen p is a)
  loss_later a m = where_so a (record a { stage = Void p }) (falls p is a) (λ e. void_later a p (falls_is a m e))

  -- one that lives on did not fall
  stands : (a : Instance) → IsLive (fallen p is a) → falls p is a ≡ false
  stands a alive = at (falls p is a) refl alive
    where
      at : (b : Bool) → falls p is a ≡ b → IsLive (if b then record a { stage = Void p } else a) → falls p is a ≡ false
      at true e l = absurd (both_ways true l refl)
      at false e l = e

  falls_by : (a : Instance) → Lacks p a → falls p is a ≡ true
  unfolding falls
  falls_by a l = or_left (lacks p a) (list_any (lacks_for p a.id) is) (lacks_from p a l)

  -- a complete first round whose second one lives on
  first_stands : (a first : Instance) → Contains is a → a.signature ≡ Rlk2 → IsLive (fallen p is a) → Contains is first → IsDone Rlk1 first → first.id ≡ a.round1 → falls p is first ≡ false
  unfolding falls
  first_stands a first m second alive n done e =
      or_from (lacks p first) (list_any (lacks_for p first.id) is)
      (false_from_ne_true (lacks p first) (λ l. let x = (lacks_is p first l).opened in let y = done.complete in cc))
      (false_from_ne_true (list_any (lacks_for p first.id) is) (λ l.
      let w = waits_is first l in
      let living : IsLive a = later_lives a (fallen p is a) (loss_later a m) alive in
      let ids : w.second.id ≡ a.id = k.one w.second a w.within m (w.signature ∙ sym second) (opened_lives w.second w.waits.opened) living in
      let it : w.second ≡ a = one_number is w.second a k.numbered w.within m ids in
      both_ways (falls p is a) (stands a alive) (falls_by a (subst (λ (z : Instance). Lacks p z) it w.waits))))

  first_complete : (a first : Instance) → Contains is a → a.signature ≡ Rlk2 → IsLive (fallen p is a) → Contains is first → IsDone Rlk1 first → first.id ≡ a.round1 → (fallen p is first).stage ≡ Complete
  first_complete a first m second alive n done e = rw (first_stands a first m second alive n done e) done.complete

  loss_sound : (a : Instance) → Contains is a → 1 ≤ p → p ≤ 32 → IsSound f s.present a → IsSound f (without_party s.present p) (fallen p is a)
  loss_sound a m first last x = either_one (λ b. IsSound f (without_party s.present p) b) (falls p is a) (record a { stage = Void p }) a
      (λ e. void_sound f s.present (without_party s.present p) a p x)
      (λ e. record {
        set = x.set;
        parties = x.parties;
        sent = x.sent;
        senders = x.senders;
        complete = x.complete;
        opened = x.opened;
        awaited = λ opened q member unsent. without_keeps s.present p q first last
            (λ same_party. both_ways (falls p is a) e (falls_by a (record {
              opened = opened;
              member = subst (λ (z : ℕ). has a.set.bits z ≡ true) same_party member;
              unsent = subst (λ (z : ℕ). has a.sent.bits z ≡ false) same_party unsent;
            })))
            (x.awaited opened q member unsent);
      })

  loss_decrypts : (a : Instance) → Decrypts s.circuits a → Decrypts s.circuits (fallen p is a)
  loss_decrypts a x = either_one (λ b. Decrypts s.circuits b) (falls p is a) (record a { stage = Void p }) a (λ e. void_decrypts s.circuits a p x) (λ e. x)

  pub loss_kept : 1 ≤ p → p ≤ 32 → Kept f (record s { present = without_party s.present p; instances = after_loss p s.instances })
  unfolding after_loss
  loss_kept first last =
      let g = fallen p is in
      record {
        circuits = k.circuits;
        given = k.given;
        numbered = numbered_map g is loss_later k.numbered;
        one = one_map g is loss_later k.one;
        sound = each_map g is (λ a. IsSound f s.present a) (λ a. IsSound f (without_party s.present p) a) (λ a m x. loss_sound a m first last x) k.sound;
        decrypts = each_map g is (λ a. Decrypts s.circuits a) (λ a. Decrypts s.circuits a) (λ a m x. loss_decrypts a x) k.decrypts;
        rounds = rounds_map g is loss_later first_complete k.rounds;
      }
