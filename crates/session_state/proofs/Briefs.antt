-- The brief of an instance that stands is what its table tells of it.
use Rattle.std.proofs.Common.{◌≡◌, ◌∙◌, sym, ap, subst, refl, ℕ, ◌+◌, ◌-◌, ◌<◌, Bool, true, false, not, cond, inl, inr, nat_eq, List, [], length, map, get_or, Some, None, Option, arith}
use Rattle.std.specs.Prelude.{All}
use Rattle.std.specs.List.{range_with_len, slice_get}
use Rattle.std.specs.Option.{option_map}
use Rattle.std.specs.declared.alloc.Global.{Global}
use Rattle.std.specs.declared.sync.Arc.{Arc}
use Rattle.std.proofs.lemmas.Bool.{eqb-false, cases_eq}
use Rattle.std.proofs.lemmas.List.{get_or-map}
use Rattle.std.proofs.lemmas.List.Elements.{All-get_or}
use Rattle.std.proofs.lemmas.Option.{slice_get_within, get_or_from_slice_get}
use Rattle.param_set.specs.declared.params.Params.{Params}
use Rattle.proto_names.specs.Names.{is_void}
use Rattle.proto_names.specs.Instances.{instance, id_of}
use Rattle.proto_names.specs.declared.instance.Instance.{Instance}
use Rattle.proto_names.specs.declared.instance.Stage.{Stage}
use Rattle.proto_names.specs.declared.instance.Stage.TheVariants.{Opened, Complete, Void}
use Rattle.instance_table.specs.declared.brief.Brief.{Brief}
use Rattle.proto_names.specs.Roles.{Role, role_of}
use Rattle.instance_table.specs.Tables.{role_told, stands, told}
use Rattle.instance_table.proofs.Places.{id_at, told_entry}
use Rattle.session_rules.specs.declared.reply.Reply.{Reply}
use Rattle.session_rules.specs.declared.reply.Reply.TheVariants as reply
use Rattle.session_rules.specs.States.{State}
use Rattle.session_rules.specs.Steps.{brief, told as told_by}
use Rattle.session_rules.specs.Facts.{IsLive}
use Rattle.session_spec.specs.Stores.{Store, held_polys}
use Rattle.session_state.specs.Parts.{polys_in, AreTold, IsOfFirst}
use Rattle.session_state.specs.Handed.{IsBriefOf}

pub some_parts : {X : Type 0} (x y : X) → Some x ≡ Some y → x ≡ y
some_parts x y e = cc

-- an instance that isn't void stands
live_from : (stage : Stage) → ((by : ℕ) → stage ≡ Void by → ⊥) → is_void stage ≡ false
live_from Opened other = refl
live_from Complete other = refl
live_from (Void by) other = absurd (other by refl)

pub lives_if : (i : Instance) → ((by : ℕ) → i.stage ≡ Void by → ⊥) → IsLive i
lives_if i other = live_from i.stage other

pub stands_if : (is : List Instance) (id : ℕ) (i : Instance) → instance is id ≡ Some i → IsLive i → stands is id ≡ true
unfolding stands
stands_if is id i e live = at (instance is id) e
  where
    at : (o : Option Instance) → o ≡ Some i → elim o as (λ _. Bool) [
      | None ↦ false
      | Some j ↦ not (is_void j.stage)
    ] ≡ true
    at None z = cc
    at (Some j) z = rw (some_parts j i z) (rw live refl)

-- what the rules tell of it
told_live : (i : Instance) (stage : Stage) → is_void stage ≡ false → told_by i stage ≡ reply.Brief i.signature i.set
unfolding told_by
told_live i Opened e = refl
told_live i Complete e = refl
told_live i (Void by) e = cc

pub brief_live : (s : State) (id : ℕ) (i : Instance) → instance s.instances id ≡ Some i → IsLive i → reply.Brief i.signature i.set ≡ brief s id
unfolding brief
brief_live s id i e live = at (instance s.instances id) e
  where
    at : (o : Option Instance) → o ≡ Some i → reply.Brief i.signature i.set ≡ elim o as (λ _. Reply) [
      | None ↦ reply.Unknown (length s.instances)
      | Some j ↦ told_by j j.stage
    ]
    at None z = cc
    at (Some j) z = rw (some_parts j i z) (sym (told_live i i.stage live))

-- its number
number_is : (is : List Instance) (id : ℕ) (i : Instance) → map id_of is ≡ range_with_len 1 (length is) → instance is id ≡ Some i → i.id ≡ id
unfolding instance
number_is is id i n e = at (nat_eq id 0) refl e
  where
    at : (b : Bool) → nat_eq id 0 ≡ b → cond b None (slice_get is (id - 1)) ≡ Some i → i.id ≡ id
    at true z e = cc
    at false z e =
        let l = slice_get_within is (id - 1) i e in
        let same = id_at is (id - 1) i n l in
        let here : get_or is (id - 1) i ≡ i = get_or_from_slice_get is (id - 1) i i e in
        let ids : i.id ≡ id - 1 + 1 = ap (λ (z : Instance). z.id) (sym here) ∙ same in
        let some = eqb-false id 0 z in
        elim (cases_eq id 0) [
          | inl none ↦ absurd (some none)
          | inr there ↦ omega arith
        ]

-- the brief that the table has of it
within_told : (is : List Instance) (briefs : List (Arc Brief Global)) (id : ℕ) (pointer : Arc Brief Global) → told is briefs id ≡ Some pointer → id - 1 < length briefs
unfolding told
within_told is briefs id pointer e = at (stands is id) e
  where
    at : (b : Bool) → cond b (slice_get briefs (id - 1)) None ≡ Some pointer → id - 1 < length briefs
    at true z = slice_get_within briefs (id - 1) pointer z
    at false z = cc

pub brief_of : (p : Params) (h : Store) (is : List Instance) (briefs : List (Arc Brief Global)) (id : ℕ) (i : Instance) (pointer : Arc Brief Global)
    → map id_of is ≡ range_with_len 1 (length is) → h.told ≡ map polys_in briefs → instance is id ≡ Some i → Some pointer ≡ told is briefs id
    → Some (role_told pointer) ≡ option_map role_of (instance is id) → All (IsOfFirst p) briefs → AreTold p i.signature (held_polys h id)
    → IsBriefOf p h i pointer.value
brief_of p h is briefs id i pointer numbered same e at roles grouped are =
    let one : role_told pointer ≡ role_of i = some_parts (role_told pointer) (role_of i) (roles ∙ ap (option_map role_of) e) in
    let number : i.id ≡ id = number_is is id i numbered e in
    let within : id - 1 < length briefs = within_told is briefs id pointer (sym at) in
    let here : get_or briefs (id - 1) pointer ≡ pointer = told_entry is briefs id pointer pointer (sym at) in
    let polys : held_polys h id ≡ pointer.value.polys = ap (λ (z : List (List (List ℕ))). get_or z (id - 1) []) same ∙ get_or-map polys_in briefs (id - 1) pointer [] within ∙ ap polys_in here in
    record {
      id = ap (λ (z : Role). z.id) one;
      signature = ap (λ (z : Role). z.signature) one;
      set = ap (λ (z : Role). z.set) one;
      round1 = ap (λ (z : Role). z.round1) one;
      group = ap (λ (z : Role). z.group) one;
      groups = subst (IsOfFirst p) here (All-get_or (IsOfFirst p) briefs (id - 1) pointer within grouped);
      polys = sym polys ∙ ap (held_polys h) (sym number);
      told = subst (λ (z : List (List ℕ)). AreTold p i.signature z) polys are;
    }
