-- Loads, and what an instance more does to them.
use Rattle.std.proofs.Common.{◌≡◌, ◌∙◌, sym, ap, refl, ℕ, ◌+◌, ◌-◌, ◌<◌, ◌≤◌, Bool, true, false, cond, inl, inr, List, [], ◌∷◌, ◌++◌, length, map, filter, take, slice_index_or, slice_set, count_by, All, arith}
use Rattle.std.specs.List.{range_with_len}
use Rattle.std.proofs.lemmas.Bool.{cases_Bool, cases_eq}
use Rattle.std.proofs.lemmas.List.{length-append, length-take, take_more, take_all, get_or-set_same, get_or-set_other}
use Rattle.std.proofs.lemmas.List.FromFn.{fill_by_all, get_or-map-range_with_len, length-map-range_with_len}
use Rattle.std.proofs.lemmas.List.Sums.{count_by-le-length, length-filter}
use Rattle.std.proofs.lemmas.List.Elements.{All-from_get_or, All-get_or, filter-append}
use Rattle.share_spec.specs.Sets.{has}
use Rattle.proto_names.specs.Instances.{lacks, fresh}
use Rattle.proto_names.specs.declared.signature.Signature.{Signature}
use Rattle.proto_names.specs.declared.sets.PartySet.{PartySet}
use Rattle.proto_names.specs.declared.instance.Instance.{Instance}
use Rattle.participants.specs.Loads.{load, loads_of, one_more, raised}
use Rattle.participants.specs.Laws.{IsAtMost, LoadsRise, LoadsAreFew}
use Rattle.participants.proofs.Parties.{has_nobody}

-- a list of 32 numbers is known by them
pub all_32 : (f : ℕ → ℕ) (xs : List ℕ) → length xs ≡ 32 → ((k : ℕ) → k < 32 → slice_index_or xs k 0 ≡ f (k + 1)) → xs ≡ map f (range_with_len 1 32)
all_32 f xs l h =
    let g : ℕ → ℕ = λ k. f (k + 1) in
    fill_by_all g xs 32 0 l h
    ∙ sym (fill_by_all g (map f (range_with_len 1 32)) 32 0 (length-map-range_with_len f 1 32) (λ k m. get_or-map-range_with_len f 1 32 k (k + 1) 0 m (omega arith)))

pub length_loads : (is : List Instance) → length (loads_of is) ≡ 32
unfolding loads_of
length_loads is = length-map-range_with_len (load is) 1 32

pub load_at : (is : List Instance) (k : ℕ) → k < 32 → slice_index_or (loads_of is) k 0 ≡ load is (k + 1)
unfolding loads_of
load_at is k l = get_or-map-range_with_len (load is) 1 32 k (k + 1) 0 l (omega arith)

pub length_raised : (set : ℕ) (loads : List ℕ) → length (raised set loads) ≡ 32
unfolding raised
length_raised set loads = length-map-range_with_len (one_more set loads) 1 32

-- ---- an instance more

count_more_last : {X : Type 0} (test : X → Bool) (xs : List X) (x : X) → count_by test (xs ++ x ∷ []) ≡ count_by test xs + cond (test x) 1 0
count_more_last test xs x =
    sym (length-filter test (xs ++ x ∷ [])) ∙ ap length (filter-append test xs (x ∷ [])) ∙ length-append (filter test xs) (filter test (x ∷ []))
    ∙ rw (length-filter test xs) (elim (cases_Bool (test x)) [
      | inl e ↦ rw e refl
      | inr e ↦ rw e refl
    ])

load_more : (is : List Instance) (i : Instance) (p : ℕ) → load (is ++ i ∷ []) p ≡ load is p + cond (lacks p i) 1 0
unfolding load
load_more is i p = count_more_last (lacks p) is i

-- the instance waits for the parties of a set
pub rises : (is : List Instance) (i : Instance) (set : ℕ) → ((p : ℕ) → has set p ≡ lacks p i) → loads_of (is ++ i ∷ []) ≡ raised set (loads_of is)
unfolding raised one_more
rises is i set h =
    all_32 (one_more set (loads_of is)) (loads_of (is ++ i ∷ [])) (length_loads (is ++ i ∷ [])) (λ k l.
    load_at (is ++ i ∷ []) k l ∙ load_more is i (k + 1)
    ∙ (let here : k + 1 - 1 ≡ k = omega arith in rw (here, load_at is k l, h (k + 1)) (elim (cases_Bool (lacks (k + 1) i)) [
      | inl e ↦ rw e refl
      | inr e ↦ rw e (omega arith)
    ])))

fresh_lacks : (is : List Instance) (σ : Signature) (set : PartySet) (round1 group p : ℕ) → has set.bits p ≡ lacks p (fresh is σ set round1 group)
unfolding lacks fresh
fresh_lacks is σ set round1 group p = rw (has_nobody p) (elim (cases_Bool (has set.bits p)) [
  | inl e ↦ rw e refl
  | inr e ↦ rw e refl
])

pub loads_rise : LoadsRise
loads_rise is σ set round1 group = rises is (fresh is σ set round1 group) set.bits (fresh_lacks is σ set round1 group)

-- the first instances of a list, and one more of it
pub loads_more : (is : List Instance) (k set : ℕ) (loads : List ℕ) (d : Instance) → k < length is → ((p : ℕ) → has set p ≡ lacks p (slice_index_or is k d))
    → loads ≡ loads_of (take k is) → raised set loads ≡ loads_of (take (k + 1) is)
loads_more is k set loads d l h same = rw (same, take_more is k d l) (sym (rises (take k is) (slice_index_or is k d) set h))

-- one that waits for nobody changes nothing
loads_stay : (is : List Instance) (i : Instance) → ((p : ℕ) → lacks p i ≡ false) → loads_of (is ++ i ∷ []) ≡ loads_of is
unfolding loads_of
loads_stay is i h =
    sym (all_32 (load (is ++ i ∷ [])) (loads_of is) (length_loads is) (λ k l. load_at is k l ∙ sym (load_more is i (k + 1) ∙ rw (h (k + 1)) (omega arith))))

pub loads_none : (is : List Instance) (k set : ℕ) (loads : List ℕ) (d : Instance) → k < length is → set ≡ 0 → ((p : ℕ) → has set p ≡ lacks p (slice_index_or is k d))
    → loads ≡ loads_of (take k is) → loads ≡ loads_of (take (k + 1) is)
loads_none is k set loads d l e h same =
    rw (same, take_more is k d l) (sym (loads_stay (take k is) (slice_index_or is k d) (λ p. sym (h p) ∙ rw e (has_nobody p))))

pub loads_all : (is : List Instance) (k : ℕ) (loads : List ℕ) → length is ≤ k → loads ≡ loads_of (take k is) → loads ≡ loads_of is
loads_all is k loads l same = same ∙ ap loads_of (take_all k is l)

-- ---- one more for the parties of a set, one place after the other

-- the numbers before place n have theirs, and the others stay
pub record Rising (set : ℕ) (old new : List ℕ) (n : ℕ) : Type 0 where
  pub risen : (k : ℕ) → k < n → slice_index_or new k 0 ≡ one_more set old (k + 1)
  pub kept : (k : ℕ) → n ≤ k → slice_index_or new k 0 ≡ slice_index_or old k 0

pub Rising-start : (set : ℕ) (old : List ℕ) → Rising set old old 0
Rising-start set old = record { risen = λ k l. absurd (omega arith); kept = λ k l. refl }

here : (set : ℕ) (old : List ℕ) (n : ℕ) → one_more set old (n + 1) ≡ slice_index_or old n 0 + cond (has set (n + 1)) 1 0
unfolding one_more
here set old n = let e : n + 1 - 1 ≡ n = omega arith in rw e (elim (cases_Bool (has set (n + 1))) [
  | inl h ↦ rw h refl
  | inr h ↦ rw h (omega arith)
])

pub Rising-takes : (set : ℕ) (old new : List ℕ) (n : ℕ) → Rising set old new n → n < length new → has set (n + 1) ≡ true
    → Rising set old (slice_set new n (slice_index_or new n 0 + 1)) (n + 1)
Rising-takes set old new n r l h = record {
  risen = λ k m. elim (cases_eq k n) [
    | inl same ↦ rw same (get_or-set_same new n (slice_index_or new n 0 + 1) 0 l ∙ rw (here set old n, h, r.kept n (omega arith)) refl)
    | inr other ↦ get_or-set_other new n k (slice_index_or new n 0 + 1) 0 other ∙ r.risen k (omega arith)
  ];
  kept = λ k m. get_or-set_other new n k (slice_index_or new n 0 + 1) 0 (λ e. absurd (omega arith)) ∙ r.kept k (omega arith);
}

pub Rising-leaves : (set : ℕ) (old new : List ℕ) (n : ℕ) → Rising set old new n → has set (n + 1) ≡ false → Rising set old new (n + 1)
Rising-leaves set old new n r h = record {
  risen = λ k m. elim (cases_eq k n) [
    | inl same ↦ rw same (rw (here set old n, h, r.kept n (omega arith)) (omega arith))
    | inr other ↦ r.risen k (omega arith)
  ];
  kept = λ k m. r.kept k (omega arith);
}

pub Rising-ends : (set : ℕ) (old new : List ℕ) → Rising set old new 32 → length new ≡ 32 → new ≡ raised set old
unfolding raised
Rising-ends set old new r l = all_32 (one_more set old) new l r.risen

-- ---- how large a load is

pub loads_are_few : LoadsAreFew
unfolding load
loads_are_few is most l =
    All-from_get_or (IsAtMost most) (loads_of is) 0 (λ k m.
    let n = length_loads is in
    rw (load_at is k (omega arith)) (let c = count_by-le-length (lacks (k + 1)) is in omega arith))

pub loads_few : (is : List Instance) (n most : ℕ) (loads : List ℕ) → length is ≤ most → loads ≡ loads_of (take n is)
    → (k d : ℕ) → k < length loads → IsAtMost most (slice_index_or loads k d)
loads_few is n most loads l same k d m =
    let all : All (IsAtMost most) loads = rw same (loads_are_few (take n is) most (omega (arith, length-take n is))) in
    All-get_or (IsAtMost most) loads k d m all
