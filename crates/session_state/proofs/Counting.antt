-- What a share that is counted leaves as it was: what is held, and the public key.
use Rattle.std.proofs.Common.{◌≡◌, ◌≢◌, ◌∙◌, sym, ap, subst, refl, ℕ, ◌-◌, ◌<◌, ◌≤◌, Bool, true, false, not, nat_eq, cond, List, [], length, map, get_or, set, slice_index_or, Contains, Option, Some, None, arith, length-set}
use Rattle.std.specs.Prelude.{if◌then◌else◌, IsTrue}
use Rattle.std.specs.List.{slice_get}
use Rattle.std.proofs.lemmas.Bool.{eqb-true, eqb-false, ne_eqb}
use Rattle.std.proofs.lemmas.List.{get_or-set_other, get_or-set_same, get_or_default, get_or-map, length-map}
use Rattle.std.proofs.lemmas.Option.{slice_get_within, get_or_from_slice_get, slice_get_read}
use Rattle.param_set.specs.declared.params.Params.{Params}
use Rattle.param_set.specs.Moduli.{digit_rows}
use Rattle.proto_names.specs.Names.{rows_of, is_void}
use Rattle.proto_names.specs.Instances.{instance, missing, lacks, with_share, counted_at, after_share}
use Rattle.proto_names.specs.declared.signature.Signature.TheVariants.{Pk}
use Rattle.proto_names.specs.declared.instance.Instance.{Instance}
use Rattle.proto_names.specs.declared.instance.Stage.TheVariants.{Opened, Complete}
use Rattle.instance_table.specs.Tables.{awaits, stands, told, row_count, row_counts, rows_sum, after_rows}
use Rattle.instance_table.proofs.Places.{told_entry}
use Rattle.session_rules.specs.declared.fixed.Fixed.{Fixed}
use Rattle.session_rules.specs.declared.deed.Deed.TheVariants.{Counts}
use Rattle.session_rules.specs.States.{State}
use Rattle.session_rules.specs.Deeds.{changed}
use Rattle.session_rules.specs.Facts.{IsLive, Kept, IsLater, IsSameLater}
use Rattle.session_rules.proofs.Contained.{contains_map, contains_map_from}
use Rattle.session_rules.proofs.Keeps.{count_next}
use Rattle.session_rules.proofs.Later.{later_lives}
use Rattle.session_rules.proofs.Marks.{IsDone, lacks_from, instance_within, one_number, numbered_at}
use Rattle.session_rules.specs.Fixing.{fixed_from}
use Rattle.session_spec.specs.Settings.{Setting, rules}
use Rattle.session_spec.specs.Honesty.{Matches}
use Rattle.session_spec.specs.Stores.{Store, held_key}
use Rattle.session_state.specs.Parts.{AreTold, Holds}
use Rattle.session_state.specs.Standings.{rules_of, state}
use Rattle.session_state.specs.declared.standing.Standing.{Standing}
use Rattle.session_state.specs.Wanted.{IsWanted}
use Rattle.session_state.proofs.Keys.{SameKeys, key_within, same_held}

-- the rules look at the rows of the gadget
pub gadget : (st : Standing) → (rules_of st).rows ≡ digit_rows st.params.q st.params.digit_bits
unfolding rules fixed_from
gadget st = refl

-- ---- an instance, and its place

-- the one with a number stands at the place before it
pub record StandsAt (is : List Instance) (id : ℕ) (i : Instance) : Type 0 where
  pub first : 1 ≤ id
  pub within : id - 1 < length is
  pub here : (d : Instance) → get_or is (id - 1) d ≡ i

stands_by : (is : List Instance) (id : ℕ) (i : Instance) → (b : Bool) → nat_eq id 0 ≡ b → cond b None (slice_get is (id - 1)) ≡ Some i → StandsAt is id i
stands_by is id i true z e = cc
stands_by is id i false z e =
    let some = eqb-false id 0 z in
    record { first = omega (arith, some); within = slice_get_within is (id - 1) i e; here = λ d. get_or_from_slice_get is (id - 1) i d e }

pub stands_at : (is : List Instance) (id : ℕ) (i : Instance) → instance is id ≡ Some i → StandsAt is id i
unfolding instance
stands_at is id i e = stands_by is id i (nat_eq id 0) refl e

pub from_place : (is : List Instance) (id : ℕ) (i : Instance) → 1 ≤ id → id - 1 < length is → i ≡ get_or is (id - 1) i → instance is id ≡ Some i
unfolding instance
from_place is id i first within here = rw (ne_eqb id 0 (λ z. absurd (omega arith))) (slice_get_read is (length is) (id - 1) i refl within here)

-- ---- a later state

pub told_later : (p : Params) (s t : State) (told : List (List (List ℕ))) → IsLater s t → length t.instances ≡ length s.instances
    → ((id : ℕ) (i : Instance) → instance s.instances id ≡ Some i → IsLive i → AreTold p i.signature (get_or told (id - 1) []))
    → (id : ℕ) (i : Instance) → instance t.instances id ≡ Some i → IsLive i → AreTold p i.signature (get_or told (id - 1) [])
told_later p s t told later long tell id i e alive =
    let at = stands_at t.instances id i e in
    let within = at.within in
    let less : id - 1 < length s.instances = omega arith in
    let before : Instance = get_or s.instances (id - 1) i in
    let same : IsSameLater before i = subst (λ (z : Instance). IsSameLater before z) (at.here i) (later.same (id - 1) i less) in
    let was : instance s.instances id ≡ Some before = from_place s.instances id before at.first less (get_or_default s.instances (id - 1) i before less) in
    rw same.signature (tell id before was (later_lives before i same alive))

-- ---- the instances with the share

stands_by_stage : (i : Instance) (o : Option Instance) → o ≡ Some i → i.stage ≡ Opened → (elim o as (λ x. Bool) [
  | None ↦ false
  | Some j ↦ not (is_void j.stage)
]) ≡ true
stands_by_stage i None e l = cc
stands_by_stage i (Some j) e l = let same : j ≡ i = cc in subst (λ (z : Instance). not (is_void z.stage) ≡ true) (sym same) (rw l refl)

pub stands_so : (is : List Instance) (id : ℕ) (i : Instance) → instance is id ≡ Some i → i.stage ≡ Opened → IsTrue (stands is id)
unfolding stands
stands_so is id i issued opened = stands_by_stage i (instance is id) issued opened

awaits_by : (p : ℕ) (i : Instance) (o : Option Instance) → o ≡ Some i → lacks p i ≡ true → (elim o as (λ x. Bool) [
  | None ↦ false
  | Some j ↦ lacks p j
]) ≡ true
awaits_by p i None e l = cc
awaits_by p i (Some j) e l = let same : j ≡ i = cc in subst (λ (z : Instance). lacks p z ≡ true) (sym same) l

module _ (f : Fixed) (s : State) (id p rows : ℕ) (i : Instance) (k : Kept f s) (w : IsWanted f s id p rows i) where
  within : Contains s.instances i
  within = instance_within s.instances id i w.issued

  pub awaited : IsTrue (awaits s.instances id p)
  unfolding awaits
  awaited =
      let l : lacks p i ≡ true = lacks_from p i (record { opened = w.opened; member = w.member; unsent = w.unsent }) in
      awaits_by p i (instance s.instances id) w.issued l

  -- the state then, with the circuits as the rules have them
  pub counted_next : Kept f (changed (Counts i p) s) × IsLater s (changed (Counts i p) s)
  counted_next = count_next f s i p (record { within = within; opened = w.opened; member = w.member; unsent = w.unsent }) k

  itself : (j : Instance) → Contains s.instances j → j.id ≡ id → j ≡ i
  itself j m e = one_number s.instances j i k.numbered m within (e ∙ sym w.number)

  complete_other : (j : Instance) → Contains s.instances j → j.stage ≡ Complete → j.id ≢ id
  complete_other j m c e = let same = itself j m e in let o : j.stage ≡ Opened = subst (λ (z : Instance). z.stage ≡ Opened) (sym same) w.opened in cc

  key_stays : (j : Instance) → Contains s.instances j → IsDone Pk j → Contains (after_share id p s.instances) j
  unfolding after_share
  key_stays j m d =
      let off : counted_at id p j ≡ j = rw (ne_eqb j.id id (complete_other j m d.complete)) refl in
      subst (λ (z : Instance). Contains (map (counted_at id p) s.instances) z) off (contains_map (counted_at id p) s.instances j m)

  key_was : (IsDone Pk (with_share p i) → ⊥) → (j : Instance) → Contains (after_share id p s.instances) j → IsDone Pk j → Contains s.instances j
  unfolding after_share
  key_was undone j m d =
      let c = contains_map_from (counted_at id p) s.instances j m in
      at c.source c.within c.same (nat_eq c.source.id id) refl
    where
      at : (x : Instance) → Contains s.instances x → counted_at id p x ≡ j → (b : Bool) → nat_eq x.id id ≡ b → Contains s.instances j
      at x n e true z =
          let same = itself x n (eqb-true x.id id z) in
          let now : j ≡ with_share p i = sym e ∙ rw z (ap (with_share p) same) in
          absurd (undone (subst (λ (z : Instance). IsDone Pk z) now d))
      at x n e false z =
          let now : j ≡ x = sym e ∙ rw z refl in
          subst (λ (z : Instance). Contains s.instances z) (sym now) n

  pub same_keys : (IsDone Pk (with_share p i) → ⊥) → SameKeys s.instances (after_share id p s.instances)
  same_keys undone = record { stays = key_stays; was = key_was undone }

  -- the sums of a complete instance are as before
  pub other_sums : (sums : List (List (List ℕ))) (x : List (List ℕ)) (j : Instance) → Contains s.instances j → j.stage ≡ Complete
      → get_or (set sums (id - 1) x) (j.id - 1) [] ≡ get_or sums (j.id - 1) []
  other_sums sums x j m c =
      let ne = complete_other j m c in
      let a = numbered_at s.instances j k.numbered m in
      let b = (stands_at s.instances id i w.issued).first in
      get_or-set_other sums (id - 1) (j.id - 1) x [] (λ e. ne (omega arith))

-- each has sums
pub sums_within : (p : Params) (is : List Instance) (sums : List (List (List ℕ))) (id : ℕ) (i : Instance) → map row_count sums ≡ map (row_counts p) is → instance is id ≡ Some i → id - 1 < length sums
sums_within p is sums id i e found =
    let within = (stands_at is id i found).within in
    let many : length sums ≡ length is = sym (length-map sums row_count) ∙ ap length e ∙ length-map is (row_counts p) in
    omega arith

-- as many rows as the sums have
rows_fit : (p : Params) (is : List Instance) (sums : List (List (List ℕ))) (id n : ℕ) (i : Instance) → map row_count sums ≡ map (row_counts p) is
    → instance is id ≡ Some i → rows_of i.signature (digit_rows p.q p.digit_bits) ≡ n → n ≡ length (slice_index_or sums (id - 1) [])
rows_fit p is sums id n i e found shape =
    let at = stands_at is id i found in
    let within = at.within in
    let many : length sums ≡ length is = sym (length-map sums row_count) ∙ ap length e ∙ length-map is (row_counts p) in
    let a : get_or (map row_count sums) (id - 1) 0 ≡ length (get_or sums (id - 1) []) = get_or-map row_count sums (id - 1) [] 0 (omega arith) in
    let b : get_or (map (row_counts p) is) (id - 1) 0 ≡ row_counts p (get_or is (id - 1) i) = get_or-map (row_counts p) is (id - 1) i 0 within in
    sym shape ∙ ap (row_counts p) (sym (at.here i)) ∙ sym b ∙ ap (λ (xs : List ℕ). get_or xs (id - 1) 0) (sym e) ∙ a

-- a share that is wanted has as many as the sums of its instance
pub wanted_rows : (st : Standing) (id party n : ℕ) (i : Instance) → IsWanted (rules_of st) (state st) id party n i → n ≡ length (slice_index_or st.table.sums.items (id - 1) [])
wanted_rows st id party n i want =
    let t = st.table in
    let shape : rows_of i.signature (digit_rows st.params.q st.params.digit_bits) ≡ n = rw (← gadget st) want.shape in
    rows_fit st.params t.instances.items t.sums.items id n i (rw (← st.table_is) t.rows) want.issued shape

-- what the sums are then
pub sums_then : (q n id : ℕ) (rows : List (List ℕ)) (is : List Instance) (sums : List (List (List ℕ))) (held : List (List ℕ)) → id - 1 < length sums → told is sums id ≡ Some held
    → get_or (after_rows q n id rows sums) (id - 1) [] ≡ rows_sum q n held rows
unfolding after_rows
sums_then q n id rows is sums held within e =
    get_or-set_same sums (id - 1) (rows_sum q n (get_or sums (id - 1) []) rows) [] within
    ∙ ap (λ (xs : List (List ℕ)). rows_sum q n xs rows) (told_entry is sums id held [] e)

-- ---- a share that isn't the last

module _ (p : Params) (f : Fixed) (s : State) (id party rows : ℕ) (i : Instance) (k : Kept f s) (want : IsWanted f s id party rows i) (more : missing party i ≢ 0) where
  -- the state then
  abbrev Then : State
  Then = record s { instances = after_share id party s.instances }

  pub more_is : changed (Counts i party) s ≡ Then
  unfolding changed
  more_is = rw (ne_eqb (missing party i) 0 more) (ap (λ (n : ℕ). record s { instances = after_share n party s.instances }) want.number)

  more_next : Kept f Then × IsLater s Then
  more_next = subst (λ (z : State). Kept f z × IsLater s z) more_is (counted_next f s id party rows i k want)

  still_open : IsDone Pk (with_share party i) → ⊥
  unfolding with_share
  still_open d =
      let closed : (if nat_eq (missing party i) 0 then Complete else Opened) ≡ Complete = d.complete in
      let waits : (if nat_eq (missing party i) 0 then Complete else Opened) ≡ Opened = rw (ne_eqb (missing party i) 0 more) refl in
      cc

  same_length : length (after_share id party s.instances) ≡ length s.instances
  unfolding after_share
  same_length = length-map s.instances (counted_at id party)

  pub more_matches : (w : Setting) (h : Store) (q n : ℕ) (poly : List (List ℕ)) → Matches w s h → Matches w Then (record h { sums = after_rows q n id poly h.sums })
  unfolding after_rows
  more_matches w h q n poly m = record {
    told = m.told ∙ sym same_length;
    sums = length-set h.sums _ _ ∙ m.sums ∙ sym same_length;
    inputs = m.inputs;
    outputs = m.outputs;
    answers = m.answers;
  }

  pub more_holds : (h : Store) (q n : ℕ) (poly : List (List ℕ)) → Holds p s h → Holds p Then (record h { sums = after_rows q n id poly h.sums })
  more_holds h q n poly holds = record {
    told = told_later p s Then h.told more_next.1 same_length holds.told;
    inputs = holds.inputs;
    outputs = holds.outputs;
    answers = holds.answers;
  }

  pub more_keyed : (w : Setting) (h : Store) (q n : ℕ) (poly : List (List ℕ)) → held_key w (record h { sums = after_rows q n id poly h.sums }) (after_share id party s.instances) ≡ held_key w h s.instances
  unfolding after_rows
  more_keyed w h q n poly =
      let g : Store = record h { sums = after_rows q n id poly h.sums } in
      same_held f w h g Then s.instances more_next.0 (same_keys f s id party rows i k want still_open)
      (λ j e. let in_ = key_within s.instances j e in other_sums f s id party rows i k want h.sums _ j in_.within in_.done.complete)
