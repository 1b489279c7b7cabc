-- The steps of a plan, one after the other.
use Rattle.std.proofs.Common.{◌≡◌, ◌∙◌, sym, ap, refl, ℕ, zero, suc, ◌+◌, ◌<◌, ◌≤◌, List, [], ◌∷◌, ◌++◌, length, map, take, get_or, fold, arith}
use Rattle.std.specs.Prelude.{All}
use Rattle.std.specs.List.{range_with_len}
use Rattle.std.specs.declared.alloc.Global.{Global}
use Rattle.std.specs.declared.sync.Arc.{Arc}
use Rattle.std.proofs.lemmas.List.{map_push, map-append, append_assoc, append-nil, length_push, length-append, take_more}
use Rattle.std.proofs.lemmas.List.Concat.{flat_map-append}
use Rattle.std.proofs.lemmas.List.Elements.{All-nil, All-cons, All-head, All-tail, All-get_or, All-map, All-append}
use Rattle.std.proofs.lemmas.List.Sums.{fold_push}
use Rattle.proto_names.specs.Instances.{fresh}
use Rattle.proto_names.specs.declared.instance.Instance.{Instance}
use Rattle.param_set.specs.declared.params.Params.{Params}
use Rattle.instance_table.specs.declared.brief.Brief.{Brief}
use Rattle.session_rules.specs.Issues.{instances_after}
use Rattle.session_rules.specs.declared.moves.Move.{Move}
use Rattle.session_rules.proofs.Stepwise.{void_length}
use Rattle.session_spec.specs.Stores.{Store}
use Rattle.session_state.specs.Issuings.{move_of, issued_by, issued, id_told, polys_told, brief_of, polys_due, IsFresh, MayMove, CanMove}
use Rattle.session_state.specs.Parts.{IsOfFirst}
use Rattle.session_state.specs.declared.issuing.Fresh.{Fresh}
use Rattle.session_state.specs.declared.issuing.Step.{Step}
use Rattle.session_state.specs.declared.issuing.Step.TheVariants.{GivesUp, Issues}

-- ---- what steps issue

pub issued_push : (xs : List Step) (x : Step) → issued (xs ++ x ∷ []) ≡ issued xs ++ issued_by x
unfolding issued
issued_push xs x = flat_map-append issued_by xs (x ∷ []) ∙ ap (λ (zs : List Fresh). issued xs ++ zs) (append-nil (issued_by x))

pub issued_length : (xs : List Step) (x : Step) → length (issued (xs ++ x ∷ [])) ≡ length (issued xs) + length (issued_by x)
issued_length xs x = ap length (issued_push xs x) ∙ length-append (issued xs) (issued_by x)

pub issues_few : (x : Step) → length (issued_by x) ≤ 1
issues_few (GivesUp id by) = omega arith
issues_few (Issues one) = omega arith

-- so many instances there are more
pub moves_length : (is : List Instance) (x : Step) → length (instances_after is (move_of x)) ≡ length is + length (issued_by x)
unfolding instances_after
moves_length is (GivesUp id by) = void_length id by is ∙ omega arith
moves_length is (Issues one) = length_push is (fresh is one.signature one.brief.value.set one.brief.value.round1 0) ∙ omega arith

-- the numbers that one of them tells
pub ids_at : (xs : List Step) (a k : ℕ) (x : Step) → map id_told (issued xs) ≡ range_with_len a (length (issued xs)) → k < length xs → x ≡ get_or xs k x
    → map id_told (issued_by x) ≡ range_with_len (a + length (issued (take k xs))) (length (issued_by x))
unfolding issued
ids_at [] a k x e l at = absurd (omega arith)
ids_at (GivesUp id by ∷ ys) a zero x e l at = rw at refl
ids_at (Issues one ∷ ys) a zero x e l at =
    let head : id_told one ≡ a = cc in
    rw at (ap (λ (z : ℕ). z ∷ []) (let n : a ≡ a + 0 = omega arith in head ∙ n))
ids_at (GivesUp id by ∷ ys) a (suc k) x e l at = ids_at ys a k x e (omega arith) at
ids_at (Issues one ∷ ys) a (suc k) x e l at =
    let tail : map id_told (issued ys) ≡ range_with_len (a + 1) (length (issued ys)) = cc in
    ids_at ys (a + 1) k x tail (omega arith) at ∙ ap (λ (z : ℕ). range_with_len z (length (issued_by x))) (omega arith)

-- and what it issues is as it has to be
pub fresh_at : (p : Params) (xs : List Step) (k : ℕ) (x : Step) → All (IsFresh p) (issued xs) → k < length xs → x ≡ get_or xs k x → All (IsFresh p) (issued_by x)
unfolding issued
fresh_at p [] k x fresh l at = absurd (omega arith)
fresh_at p (GivesUp id by ∷ ys) zero x fresh l at = rw at (All-nil (IsFresh p))
fresh_at p (Issues first ∷ ys) zero x fresh l at = rw at (All-cons (IsFresh p) first [] (All-head (IsFresh p) first (issued ys) fresh) (All-nil (IsFresh p)))
fresh_at p (GivesUp id by ∷ ys) (suc k) x fresh l at = fresh_at p ys k x fresh (omega arith) at
fresh_at p (Issues first ∷ ys) (suc k) x fresh l at = fresh_at p ys k x (All-tail (IsFresh p) first (issued ys) fresh) (omega arith) at

-- what it gives up stands
pub may_at : (is : List Instance) (xs : List Step) (k : ℕ) (x : Step) → CanMove is (map move_of xs) → k < length xs → x ≡ get_or xs k x
    → MayMove (fold instances_after is (map move_of (take k xs))) (move_of x)
unfolding CanMove
may_at is [] k x can l at = absurd (omega arith)
may_at is (y ∷ ys) zero x can l at = rw at can.0
may_at is (y ∷ ys) (suc k) x can l at = may_at (instances_after is (move_of y)) ys k x can.1 (omega arith) at

-- all briefs are for the one group
pub all_of_first : (p : Params) (old : List (Arc Brief Global)) (xs : List Fresh) → All (IsOfFirst p) old → All (IsFresh p) xs
    → All (IsOfFirst p) (old ++ map brief_of xs)
all_of_first p old xs before fresh =
    All-append (IsOfFirst p) old (map brief_of xs) before
    (All-map (IsOfFirst p) brief_of xs (λ k d l. (All-get_or (IsFresh p) xs k d l fresh).groups))

-- the instances after one more step
pub fold_step : (is : List Instance) (xs : List Step) (x : Step)
    → fold instances_after is (map move_of (xs ++ x ∷ [])) ≡ instances_after (fold instances_after is (map move_of xs)) (move_of x)
fold_step is xs x = ap (fold instances_after is) (map_push move_of xs x) ∙ fold_push instances_after is (map move_of xs) (move_of x)

-- what is put behind a list, step after step
pub put_behind : {X : Type 0} (f : Fresh → X) (old now later : List X) (xs : List Step) (x : Step) → now ≡ old ++ map f (issued xs) → later ≡ now ++ map f (issued_by x)
    → later ≡ old ++ map f (issued (xs ++ x ∷ []))
put_behind {X} f old now later xs x e p =
    p ∙ ap (λ (zs : List X). zs ++ map f (issued_by x)) e ∙ append_assoc old (map f (issued xs)) (map f (issued_by x))
    ∙ ap (λ (zs : List X). old ++ zs) (sym (map-append f (issued xs) (issued_by x)) ∙ ap (map f) (sym (issued_push xs x)))

-- the steps so far are the first ones
pub first_more : (xs ys : List Step) (x : Step) → ys ≡ take (length ys) xs → length ys < length xs → x ≡ get_or xs (length ys) x → ys ++ x ∷ [] ≡ take (length (ys ++ x ∷ [])) xs
first_more xs ys x so l at =
    ap (λ (zs : List Step). zs ++ x ∷ []) so ∙ ap (λ (z : Step). take (length ys) xs ++ z ∷ []) at ∙ sym (take_more xs (length ys) x l)
    ∙ ap (λ (n : ℕ). take n xs) (sym (length_push ys x))

-- ---- steps that are made

range_join : (m a n : ℕ) → range_with_len a (m + n) ≡ range_with_len a m ++ range_with_len (a + m) n
range_join zero a n =
    let none : 0 + n ≡ n = omega arith in
    let same : a ≡ a + 0 = omega arith in
    ap (range_with_len a) none ∙ ap (λ (z : ℕ). range_with_len z n) same
range_join (suc m) a n =
    let more : suc m + n ≡ suc (m + n) = omega arith in
    let same : a + 1 + m ≡ a + suc m = omega arith in
    ap (range_with_len a) more ∙ ap (λ (zs : List ℕ). a ∷ zs) (range_join m (a + 1) n ∙ ap (λ (z : ℕ). range_with_len (a + 1) m ++ range_with_len z n) same)

-- the steps for the first of some moves, behind so many instances
pub record Made (p : Params) (h : Store) (before k : ℕ) (ms : List Move) (xs : List Step) : Type 0 where
  pub count : length xs ≡ k
  pub moves : map move_of xs ≡ take k ms
  pub few : length (issued xs) ≤ k
  pub ids : map id_told (issued xs) ≡ range_with_len (before + 1) (length (issued xs))
  pub polys : map polys_told (issued xs) ≡ map (polys_due h) (issued xs)
  pub fresh : All (IsFresh p) (issued xs)

pub made_none : (p : Params) (h : Store) (before : ℕ) (ms : List Move) → Made p h before 0 ms []
unfolding issued
made_none p h before ms = record { count = refl; moves = refl; few = omega arith; ids = refl; polys = refl; fresh = All-nil (IsFresh p) }

module _ (p : Params) (h : Store) (before k : ℕ) (ms : List Move) (xs : List Step) (x : Step) (m : Made p h before k ms xs) (l : k < length ms) where
  ids_more : map id_told (issued_by x) ≡ range_with_len (before + 1 + length (issued xs)) (length (issued_by x))
      → map id_told (issued (xs ++ x ∷ [])) ≡ range_with_len (before + 1) (length (issued (xs ++ x ∷ [])))
  ids_more ids =
      ap (map id_told) (issued_push xs x) ∙ map-append id_told (issued xs) (issued_by x)
      ∙ ap (λ (zs : List ℕ). zs ++ map id_told (issued_by x)) m.ids
      ∙ ap (λ (zs : List ℕ). range_with_len (before + 1) (length (issued xs)) ++ zs) ids
      ∙ sym (range_join (length (issued xs)) (before + 1) (length (issued_by x)))
      ∙ ap (range_with_len (before + 1)) (sym (issued_length xs x))

  polys_more : map polys_told (issued_by x) ≡ map (polys_due h) (issued_by x) → map polys_told (issued (xs ++ x ∷ [])) ≡ map (polys_due h) (issued (xs ++ x ∷ []))
  polys_more polys =
      ap (map polys_told) (issued_push xs x) ∙ map-append polys_told (issued xs) (issued_by x)
      ∙ ap (λ (zs : List (List (List ℕ))). zs ++ map polys_told (issued_by x)) m.polys
      ∙ ap (λ (zs : List (List (List ℕ))). map (polys_due h) (issued xs) ++ zs) polys
      ∙ sym (map-append (polys_due h) (issued xs) (issued_by x)) ∙ ap (map (polys_due h)) (sym (issued_push xs x))

  pub made_more : move_of x ≡ get_or ms k (move_of x) → map id_told (issued_by x) ≡ range_with_len (before + 1 + length (issued xs)) (length (issued_by x))
      → map polys_told (issued_by x) ≡ map (polys_due h) (issued_by x) → All (IsFresh p) (issued_by x) → Made p h before (k + 1) ms (xs ++ x ∷ [])
  made_more move ids polys fresh = record {
    count = let c = m.count in omega (arith, length_push xs x);
    moves = map_push move_of xs x ∙ ap (λ (zs : List Move). zs ++ move_of x ∷ []) m.moves ∙ ap (λ (z : Move). take k ms ++ z ∷ []) move ∙ sym (take_more ms k (move_of x) l);
    few = let few = m.few in omega (arith, issued_length xs x, issues_few x);
    ids = ids_more ids;
    polys = polys_more polys;
    fresh = rw (issued_push xs x) (All-append (IsFresh p) (issued xs) (issued_by x) m.fresh fresh);
  }
