-- The instance with a number stands at the place before it, so what becomes of that one alone is written
-- at one place.
use Rattle.std.proofs.Common.{◌≡◌, ◌≢◌, ℕ, ◌+◌, ◌-◌, ◌<◌, ◌≤◌, List, map, length, get_or, set, ap, sym, ◌∙◌, refl, arith, length-set, Bor}
use Rattle.std.specs.Prelude.{All, IsTrue, Option, Some, None, IfSome, option_map, option_copied}
use Rattle.std.specs.List.{range_with_len, slice_get}
use Rattle.std.proofs.lemmas.List.{ext_get_or, get_or-map, length-map}
use Rattle.std.proofs.lemmas.List.Elements.{All-get_or}
use Rattle.std.proofs.lemmas.List.FromFn.{get_or-range_with_len}
use Rattle.std.proofs.lemmas.Option.{slice_get_within, slice_get_read, slice_get-map, get_or_from_slice_get}
use Rattle.std.proofs.lemmas.Grind.{common_steps}
use Rattle.std.proofs.lemmas.Bool.Decides.{nat_tests}
use Rattle.share_spec.specs.Sets.{has}
use Rattle.proto_names.specs.Instances.{instance, lacks, missing, id_of, given_up, counted_at, with_share, after_void, after_share}
use Rattle.proto_names.specs.declared.instance.Instance.{Instance}
use Rattle.proto_names.specs.declared.instance.Stage.TheVariants.{Void}
use Rattle.instance_table.specs.Tables.{stands, told, awaits, outcome, count_of}

pub id_at : (is : List Instance) (k : ℕ) (d : Instance) → map id_of is ≡ range_with_len 1 (length is) → k < length is → (get_or is k d).id ≡ k + 1
id_at is k d e h =
    let a : get_or (map id_of is) k 0 ≡ (get_or is k d).id = get_or-map id_of is k d 0 h in
    let b : get_or (range_with_len 1 (length is)) k 0 ≡ 1 + k = get_or-range_with_len 1 (length is) k 0 h in
    let c : get_or (map id_of is) k 0 ≡ get_or (range_with_len 1 (length is)) k 0 = ap (λ (xs : List ℕ). get_or xs k 0) e in
    omega arith

-- a change of the one with a number alone, entry by entry
changed_at : (f : Instance → Instance) (is : List Instance) (k : ℕ) (d : Instance) → map id_of is ≡ range_with_len 1 (length is) → k < length is →
    ((i : Instance) → i.id ≢ k + 1 → f i ≡ i) → (j : ℕ) → j < length is → get_or (map f is) j d ≡ get_or (set is k (f (get_or is k d))) j d
changed_at f is k d e h same j l =
    let a : get_or (map f is) j d ≡ f (get_or is j d) = get_or-map f is j d d l in
    let b : (get_or is j d).id ≡ j + 1 = id_at is j d e l in
    grind (arith, common_steps, a, b, same (get_or is j d))

pub change_is : (f : Instance → Instance) (is : List Instance) (k : ℕ) (d : Instance) → map id_of is ≡ range_with_len 1 (length is) → k < length is →
    ((i : Instance) → i.id ≢ k + 1 → f i ≡ i) → map f is ≡ set is k (f (get_or is k d))
change_is f is k d e h same =
    ext_get_or d (map f is) (set is k (f (get_or is k d))) (simp (length-set, length-map))
    (λ j l. changed_at f is k d e h same j (simp length-map at l))

-- what becomes of the one with a number
pub void_at : (is : List Instance) (id by k : ℕ) (x : Instance) → map id_of is ≡ range_with_len 1 (length is) → k < length is → k + 1 ≡ id →
    x ≡ get_or is k x → set is k (record x { stage = Void by }) ≡ after_void id by is
unfolding after_void
void_at is id by k x e h at same =
    let here : x.id ≡ id = ap id_of same ∙ id_at is k x e h ∙ at in
    let there : given_up id by (get_or is k x) ≡ record x { stage = Void by } = rw (← same) (rw here (grind (arith, nat_tests))) in
    sym (change_is (given_up id by) is k x e h (λ i ne. grind (arith, nat_tests)) ∙ ap (set is k) there)

pub share_at : (is : List Instance) (id p k : ℕ) (x : Instance) → map id_of is ≡ range_with_len 1 (length is) → k < length is → k + 1 ≡ id →
    x ≡ get_or is k x → set is k (with_share p x) ≡ after_share id p is
unfolding after_share
share_at is id p k x e h at same =
    let here : x.id ≡ id = ap id_of same ∙ id_at is k x e h ∙ at in
    let there : counted_at id p (get_or is k x) ≡ with_share p x = rw (← same) (rw here (grind (arith, nat_tests))) in
    sym (change_is (counted_at id p) is k x e h (λ i ne. grind (arith, nat_tests)) ∙ ap (set is k) there)

-- one that stands, or that awaits a share, was issued
pub stands_issued : (is : List Instance) (id : ℕ) → IsTrue (stands is id) → (1 ≤ id) × (id ≤ length is)
unfolding stands instance
stands_issued is id t = grind (arith, common_steps, nat_tests, slice_get_within)

pub awaits_issued : (is : List Instance) (id p : ℕ) → IsTrue (awaits is id p) → (1 ≤ id) × (id ≤ length is)
unfolding awaits instance
awaits_issued is id p t = grind (arith, common_steps, nat_tests, slice_get_within)

-- the party of an awaited share is one of 1 to 32
pub awaits_party : (is : List Instance) (id p : ℕ) → IsTrue (awaits is id p) → (1 ≤ p) × (p ≤ 32)
unfolding awaits lacks has
awaits_party is id p t = grind (arith, common_steps, nat_tests)

-- what counting it tells
pub count_at : (is : List Instance) (id p k : ℕ) (x : Instance) → k < length is → k + 1 ≡ id → x ≡ get_or is k x →
    Some (outcome (missing p x)) ≡ count_of is id p
unfolding count_of instance
count_at is id p k x h at same =
    let here : slice_get is k ≡ Some x = slice_get_read is (length is) k x refl h same in
    grind (arith, common_steps, nat_tests)

-- lists of the same values of two functions are as long as each other
pub lengths_from_maps : {X Y Z : Type 0} (f : X → Z) (g : Y → Z) (xs : List X) (ys : List Y) → map f xs ≡ map g ys → length xs ≡ length ys
lengths_from_maps f g xs ys e = sym (length-map xs f) ∙ ap length e ∙ length-map ys g

-- what is told of it is the entry at that place
pub told_entry : {X : Type 0} (is : List Instance) (xs : List X) (id : ℕ) (x d : X) → told is xs id ≡ Some x → get_or xs (id - 1) d ≡ x
unfolding told
told_entry is xs id x d e = grind (arith, common_steps, get_or_from_slice_get)

-- and that entry agrees with the instance, where the lists do
pub told_of : {X Y : Type 0} (f : X → Y) (g : Instance → Y) (is : List Instance) (xs : List X) (id : ℕ) (x : X) → map f xs ≡ map g is →
    told is xs id ≡ Some x → Some (f x) ≡ option_map g (instance is id)
unfolding told stands instance
told_of f g is xs id x e t =
    let a = slice_get-map f xs (id - 1) in let b = slice_get-map g is (id - 1) in
    grind (arith, common_steps, nat_tests, a, b)

pub told_agrees : {X Y : Type 0} (f : X → Y) (g : Instance → Y) (is : List Instance) (xs : List X) (id : ℕ) (r : Option (Bor X)) → map f xs ≡ map g is →
    option_copied r ≡ told is xs id → IfSome r (λ x. Some (f x.now) ≡ option_map g (instance is id))
told_agrees f g is xs id None e t = tt
told_agrees f g is xs id (Some x) e t = told_of f g is xs id x.now e (sym t)

-- and has what each entry has
told_within : {X : Type 0} (is : List Instance) (xs : List X) (id : ℕ) (x : X) → told is xs id ≡ Some x → id - 1 < length xs
unfolding told
told_within is xs id x t = grind (arith, common_steps, slice_get_within)

pub told_each : {X : Type 0} (P : X → Type 0) (is : List Instance) (xs : List X) (id : ℕ) (r : Option (Bor X)) → All P xs →
    option_copied r ≡ told is xs id → IfSome r (λ x. P x.now)
told_each P is xs id None a t = tt
told_each P is xs id (Some x) a t =
    let here : get_or xs (id - 1) x.now ≡ x.now = told_entry is xs id x.now x.now (sym t) in
    rw here at (All-get_or P xs (id - 1) x.now (told_within is xs id x.now (sym t)) a)
