-- A party that is lost: the instances that lack its share are given up, with the first round of a second one, and
-- what holds of the store holds then.
use Rattle.std.proofs.Common.{◌≡◌, ◌≢◌, ◌∙◌, sym, ap, subst, refl, ℕ, ◌<◌, Bool, true, false, nat_eq, ◌&&◌, ◌||◌, inl, inr, List, [], ◌∷◌, map, length, find, get_or, Contains, Option, Some, None, arith}
use Rattle.std.specs.Prelude.{if◌then◌else◌}
use Rattle.std.specs.List.{list_any}
use Rattle.std.specs.Option.{option_map}
use Rattle.std.proofs.lemmas.Bool.{both_ways, eqb-true, and_parts, and_from, cases_Bool, eq-eqb, false_from_ne_true}
use Rattle.std.proofs.lemmas.List.{get_or-map, length-map}
use Rattle.param_set.specs.declared.params.Params.{Params}
use Rattle.proto_names.specs.Names.{same}
use Rattle.proto_names.specs.Groups.{without_party}
use Rattle.proto_names.specs.Instances.{instance, lacks, lost_by, after_lost, given_up, after_void}
use Rattle.proto_names.specs.declared.signature.Signature.TheVariants.{Pk, Rlk1, Rlk2}
use Rattle.proto_names.specs.declared.instance.Instance.{Instance}
use Rattle.proto_names.specs.declared.instance.Stage.TheVariants.{Complete, Void}
use Rattle.instance_table.specs.Tables.{stands}
use Rattle.session_rules.specs.declared.deed.Deed.TheVariants.{Loses}
use Rattle.session_rules.specs.declared.fixed.Fixed.{Fixed}
use Rattle.session_rules.specs.States.{State, seen}
use Rattle.session_rules.specs.Deeds.{lacks_for, falls, fallen, after_loss, changed}
use Rattle.session_rules.specs.Steps.{lose}
use Rattle.session_rules.specs.Facts.{IsLive, Numbered, Kept}
use Rattle.session_rules.proofs.Contained.{contains_map, contains_map_from, find_some, find_none, any_none, any_from}
use Rattle.session_rules.proofs.Losses.{loss_later}
use Rattle.session_rules.proofs.Marks.{IsDone, same_is, lacks_is, complete_lives, opened_lives, one_number, instance_within, instance_id, found}
use Rattle.session_spec.specs.Settings.{Setting}
use Rattle.session_spec.specs.Honesty.{Matches}
use Rattle.session_spec.specs.Stores.{Store, held_key, held_polys}
use Rattle.session_state.specs.Losings.{lacks_second, round1_of, first_lost, has_number, without}
use Rattle.session_state.specs.Parts.{AreTold, Holds}
use Rattle.session_state.proofs.Briefs.{stands_if}
use Rattle.session_state.proofs.Keys.{SameKeys, same_held}

-- who is present is all that is looked at
pub lose_seen : (s : State) (p : ℕ) → lose (seen s.present [] [] []) p ≡ lose s p
unfolding lose
lose_seen s p = refl

-- ---- one second round at most lacks the share

-- one that lacks it for its first round lacks it, and the other way round
second_for : (p id : ℕ) (j : Instance) → lacks_for p id j ≡ true → (lacks_second p j ≡ true) × (nat_eq j.round1 id ≡ true)
second_for p id j e =
    let both = and_parts (same j.signature Rlk2 && nat_eq j.round1 id) (lacks p j) e in
    let two = and_parts (same j.signature Rlk2) (nat_eq j.round1 id) both.0 in
    (and_from (same j.signature Rlk2) (lacks p j) two.0 both.1, two.1)

for_second : (p id : ℕ) (j : Instance) → lacks_second p j ≡ true → nat_eq j.round1 id ≡ true → lacks_for p id j ≡ true
for_second p id j e n =
    let both = and_parts (same j.signature Rlk2) (lacks p j) e in
    and_from (same j.signature Rlk2 && nat_eq j.round1 id) (lacks p j) (and_from (same j.signature Rlk2) (nat_eq j.round1 id) both.0 n) both.1

module _ (f : Fixed) (s : State) (k : Kept f s) (p : ℕ) where
  is_second : (j : Instance) → lacks_second p j ≡ true → (j.signature ≡ Rlk2) × IsLive j
  is_second j e =
      let both = and_parts (same j.signature Rlk2) (lacks p j) e in
      (same_is j.signature Rlk2 both.0, opened_lives j (lacks_is p j both.1).opened)

  one_second : (i j : Instance) → Contains s.instances i → Contains s.instances j → lacks_second p i ≡ true → lacks_second p j ≡ true → i ≡ j
  one_second i j a b x y =
      let c = is_second i x in let d = is_second j y in
      one_number s.instances i j k.numbered a b (k.one i j a b (c.0 ∙ sym d.0) c.1 d.1)

  -- so a number is that of its first round exactly where a second round lacks the share for it
  number_falls : (id : ℕ) (o : Option Instance) → find (lacks_second p) s.instances ≡ o → (i : Instance) → i.id ≡ id → list_any (lacks_for p id) s.instances ≡ has_number (option_map round1_of o) i
  number_falls id None e i same =
      any_none (lacks_for p id) s.instances (λ j m. false_from_ne_true (lacks_for p id j) (λ l.
      both_ways (lacks_second p j) (find_none (lacks_second p) s.instances j e m) (second_for p id j l).0))
  number_falls id (Some x) e i same = elim (cases_Bool (nat_eq i.id x.round1)) [
    | inl it ↦
        let at = find_some (lacks_second p) s.instances x e in
        let number : x.round1 ≡ id = sym (eqb-true i.id x.round1 it) ∙ same in
        any_from (lacks_for p id) s.instances x at.0 (for_second p id x at.1 (eq-eqb x.round1 id number)) ∙ sym it
    | inr other ↦
        let at = find_some (lacks_second p) s.instances x e in
        any_none (lacks_for p id) s.instances (λ j m. false_from_ne_true (lacks_for p id j) (λ l.
        let two = second_for p id j l in
        let one : j ≡ x = one_second j x m at.0 two.0 at.1 in
        let number : i.id ≡ x.round1 = same ∙ sym (eqb-true j.round1 id two.1) ∙ ap (λ (z : Instance). z.round1) one in
        both_ways (nat_eq i.id x.round1) other (eq-eqb i.id x.round1 number)))
        ∙ sym other
  ]

  falls_is : (i : Instance) → fallen p s.instances i ≡ without p (first_lost p s.instances) i
  unfolding falls first_lost
  falls_is i = rw (number_falls i.id (find (lacks_second p) s.instances) refl i refl) refl

  each_falls : (js : List Instance) → map (fallen p s.instances) js ≡ map (without p (first_lost p s.instances)) js
  each_falls [] = refl
  each_falls (j ∷ js) =
      ap (λ (z : Instance). z ∷ map (fallen p s.instances) js) (falls_is j)
      ∙ ap (λ (zs : List Instance). without p (first_lost p s.instances) j ∷ zs) (each_falls js)

  pub loss_is : after_loss p s.instances ≡ map (without p (first_lost p s.instances)) s.instances
  unfolding after_loss
  loss_is = each_falls s.instances

-- the state then
pub lost_is : (f : Fixed) (s : State) (p present : ℕ) (is : List Instance) → Kept f s → present ≡ without_party s.present p → is ≡ map (without p (first_lost p s.instances)) s.instances
    → record s { present = present; instances = is } ≡ changed (Loses p) s
unfolding changed
lost_is f s p present is k gone same = rw (gone, same, sym (loss_is f s k p)) refl

-- ---- the same in two steps: those that lack the share, and then the first round

without_none : (p : ℕ) (is : List Instance) → map (lost_by p) is ≡ map (without p None) is
without_none p [] = refl
without_none p (i ∷ is) = ap (λ (zs : List Instance). lost_by p i ∷ zs) (without_none p is) ∙ ap (λ (z : Instance). z ∷ map (without p None) is) (at (lacks p i))
  where
    at : (b : Bool) → (if b then record i { stage = Void p } else i) ≡ (if b || false then record i { stage = Void p } else i)
    at true = refl
    at false = refl

pub none_given_up : (p : ℕ) (is : List Instance) → after_lost p is ≡ map (without p None) is
unfolding after_lost
none_given_up p is = without_none p is

then_given_up : (p id : ℕ) (i : Instance) → given_up id p (lost_by p i) ≡ without p (Some id) i
then_given_up p id i = at (lacks p i) (nat_eq i.id id) refl
  where
    at : (a b : Bool) → nat_eq i.id id ≡ b → given_up id p (if a then record i { stage = Void p } else i) ≡ (if a || nat_eq i.id id then record i { stage = Void p } else i)
    at true true e = rw e refl
    at true false e = rw e refl
    at false true e = rw e refl
    at false false e = rw e refl

each_given_up : (p id : ℕ) (is : List Instance) → map (given_up id p) (map (lost_by p) is) ≡ map (without p (Some id)) is
each_given_up p id [] = refl
each_given_up p id (i ∷ is) =
    ap (λ (z : Instance). z ∷ map (given_up id p) (map (lost_by p) is)) (then_given_up p id i)
    ∙ ap (λ (zs : List Instance). without p (Some id) i ∷ zs) (each_given_up p id is)

pub one_given_up : (p id : ℕ) (is : List Instance) → after_void id p (after_lost p is) ≡ map (without p (Some id)) is
unfolding after_lost after_void
one_given_up p id is = each_given_up p id is

-- the first round stands until then
lost_id : (p : ℕ) (i : Instance) → (lost_by p i).id ≡ i.id
lost_id p i = at (lacks p i)
  where
    at : (b : Bool) → (if b then record i { stage = Void p } else i).id ≡ i.id
    at true = refl
    at false = refl

lost_numbered : (p : ℕ) (is : List Instance) → Numbered is → Numbered (map (lost_by p) is)
lost_numbered p is n k d l =
    let within : k < length is = omega (arith, length-map is (lost_by p)) in
    ap (λ (z : Instance). z.id) (get_or-map (lost_by p) is k d d within) ∙ lost_id p (get_or is k d) ∙ n k d within

complete_stays : (p : ℕ) (i : Instance) → i.stage ≡ Complete → lost_by p i ≡ i
complete_stays p i e = at (lacks p i) refl
  where
    at : (b : Bool) → lacks p i ≡ b → (if b then record i { stage = Void p } else i) ≡ i
    at true lack = let opened = (lacks_is p i lack).opened in cc
    at false lack = refl

module _ (f : Fixed) (s : State) (k : Kept f s) (p id : ℕ) where
  stands_at : (o : Option Instance) → find (lacks_second p) s.instances ≡ o → option_map round1_of o ≡ Some id → stands (map (lost_by p) s.instances) id ≡ true
  stands_at None e some = cc
  stands_at (Some x) e some =
      let at = find_some (lacks_second p) s.instances x e in
      let second = is_second f s k p x at.1 in
      let h = k.rounds x at.0 second.0 second.1 in
      let is = s.instances in
      let there : Contains (map (lost_by p) is) h.first = subst (λ (z : Instance). Contains (map (lost_by p) is) z) (complete_stays p h.first h.complete) (contains_map (lost_by p) is h.first h.issued) in
      let number : x.round1 ≡ id = cc in
      subst (λ (n : ℕ). stands (map (lost_by p) is) n ≡ true) (h.id ∙ number)
      (stands_if (map (lost_by p) is) h.first.id h.first (found (map (lost_by p) is) h.first (lost_numbered p is k.numbered) there) (complete_lives h.first h.complete))

  pub first_stands : Some id ≡ first_lost p s.instances → stands (after_lost p s.instances) id ≡ true
  unfolding after_lost first_lost
  first_stands some = stands_at (find (lacks_second p) s.instances) refl (sym some)

-- ---- an instance that isn't void then is as it was

fallen_live : (p : ℕ) (is : List Instance) (i : Instance) → IsLive (fallen p is i) → fallen p is i ≡ i
fallen_live p is i = at (falls p is i)
  where
    at : (b : Bool) → IsLive (if b then record i { stage = Void p } else i) → (if b then record i { stage = Void p } else i) ≡ i
    at true lives = cc
    at false lives = refl

module _ (p : ℕ) (is : List Instance) where
  loss_within : (i : Instance) → Contains (after_loss p is) i → IsLive i → Contains is i
  unfolding after_loss
  loss_within i m lives =
      let c = contains_map_from (fallen p is) is i m in
      subst (λ (z : Instance). Contains is z) (sym (fallen_live p is c.source (subst IsLive (sym c.same) lives)) ∙ c.same) c.within

  pub loss_length : length (after_loss p is) ≡ length is
  unfolding after_loss
  loss_length = length-map is (fallen p is)

-- the complete keys are the same
other_than_first : (j : Instance) → IsDone Pk j → j.signature ≢ Rlk1
other_than_first j d e = let signature = d.signature in cc

pub loss_keys : (f : Fixed) (s : State) (p : ℕ) → Kept f s → SameKeys s.instances (after_loss p s.instances)
unfolding after_loss
loss_keys f s p k = record {
  stays = λ j m d.
      let g = fallen p s.instances in
      let stage = (loss_later f s k p j m).complete (other_than_first j d) d.complete in
      subst (λ (z : Instance). Contains (map g s.instances) z) (fallen_live p s.instances j (complete_lives (g j) stage)) (contains_map g s.instances j m);
  was = λ j m d. loss_within p s.instances j m (complete_lives j d.complete);
}

-- ---- what holds then

module _ (f : Fixed) (s : State) (party : ℕ) (k : Kept f s) (kept_then : Kept f (changed (Loses party) s)) where
  then_instances : (changed (Loses party) s).instances ≡ after_loss party s.instances
  unfolding changed
  then_instances = refl

  lost_told : (p : Params) (h : Store) → Holds p s h → (id : ℕ) (i : Instance) → instance (changed (Loses party) s).instances id ≡ Some i → IsLive i → AreTold p i.signature (held_polys h id)
  lost_told p h holds id i at lives =
      let now = (changed (Loses party) s).instances in
      let there : Contains (after_loss party s.instances) i = subst (λ (is : List Instance). Contains is i) then_instances (instance_within now id i at) in
      let number : i.id ≡ id = instance_id now id i kept_then.numbered at in
      let before = found s.instances i k.numbered (loss_within party s.instances i there lives) in
      holds.told id i (subst (λ (z : ℕ). instance s.instances z ≡ Some i) number before) lives

  pub lost_held : (w : Setting) (h : Store) → held_key w h (changed (Loses party) s).instances ≡ held_key w h s.instances
  lost_held w h =
      let same = subst (λ (js : List Instance). SameKeys s.instances js) (sym then_instances) (loss_keys f s party k) in
      same_held f w h h (changed (Loses party) s) s.instances kept_then same (λ j e. refl)

  pub lost_holds : (p : Params) (h : Store) → Holds p s h → Holds p (changed (Loses party) s) h
  unfolding changed
  lost_holds p h holds = record {
    told = lost_told p h holds;
    inputs = holds.inputs;
    outputs = holds.outputs;
    answers = holds.answers;
  }

pub lost_matches : (w : Setting) (s : State) (h : Store) (party : ℕ) → Matches w s h → Matches w (changed (Loses party) s) h
unfolding changed
lost_matches w s h party m = record {
  told = m.told ∙ sym (loss_length party s.instances);
  sums = m.sums ∙ sym (loss_length party s.instances);
  inputs = m.inputs;
  outputs = m.outputs;
  answers = m.answers;
}
