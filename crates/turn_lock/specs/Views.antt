-- What a seat at the lock's table knows, as lists of entries.
use Rattle.std.specs.Prelude.{◌≡◌, ◌==◌, ℕ, Option, Some, None, List, [], ◌∷◌, ◌++◌, map, filter}
use Rattle.turn_lock.specs.declared.view.Sight.{Sight}
use Rattle.turn_lock.specs.declared.view.Stage.{Stage}
use Rattle.turn_lock.specs.declared.view.View.{View}

-- ys is xs, and then more
abbrev pub BeginsWith : {E : Type 0} → List E → List E → Type 0
BeginsWith {E} ys xs = (more : List E) × (ys ≡ xs ++ more)

-- P holds of each item
abbrev pub Each : {A : Type 0} → (A → Type 0) → List A → Type 0
Each P [] = Unit {0}
Each P (x ∷ xs) = P x × Each P xs

-- the entries of the caller p
abbrev pub entries_by : {E : Type 0} → (E → ℕ) → ℕ → List E → List E
entries_by number p es = filter (λ e. number e == p) es

module _ {F E : Type 0} where
  abbrev pub number_in : Sight F E → ℕ
  number_in t = t.number

  -- the numbers of a view's sights
  abbrev pub numbers_in : View F E → List ℕ
  numbers_in v = map number_in v.sights

  abbrev fixed_first : List (Sight F E) → Option F
  fixed_first [] = None
  fixed_first (t ∷ ts) = Some t.fixed

  abbrev began_first : List (Sight F E) → List E
  began_first [] = []
  began_first (t ∷ ts) = t.began

  abbrev since_first : List (Sight F E) → List E
  since_first [] = []
  since_first (t ∷ ts) = t.since

  -- of a view's first sight: the fixed data, the entries that the lock began with, and the entries seen behind those
  abbrev pub fixed_in : View F E → Option F
  fixed_in v = fixed_first v.sights

  abbrev pub began_in : View F E → List E
  began_in v = began_first v.sights

  abbrev pub since_in : View F E → List E
  since_in v = since_first v.sights

  -- a view with one sight
  abbrev pub alone : Sight F E → Stage → View F E
  alone t stage = record { sights = t ∷ []; stage = stage }

  -- the sight with more entries behind those that were seen
  abbrev pub grown : Sight F E → List E → Sight F E
  grown t more = record { number = t.number; fixed = t.fixed; began = t.began; since = t.since ++ more }

  -- the sight of a note: it has no number
  abbrev pub unnumbered : Sight F E → Sight F E
  unnumbered t = record { number = 0; fixed = t.fixed; began = t.began; since = t.since }

  -- the sight of a new pass
  abbrev pub fresh : F → List E → ℕ → Sight F E
  fresh f began p = record { number = p; fixed = f; began = began; since = [] }
