-- The rule that each atomic step keeps. The history is what the lock began with, and then the entries of the turns that were passed on.
use Rattle.std.specs.Prelude.{◌≡◌, ◌⊎◌, ℕ, zero, suc, ◌+◌, ◌%◌, ◌^◌, ◌≤◌, Option, Some, List, [], ◌∷◌, ◌++◌, map}
use Rattle.std.specs.List.{range_with_len}
use mathlib.Core.Option as maybe
use Rattle.atomic_table.specs.Table.{State}
use Rattle.turn_lock.specs.declared.view.Sight.{Sight}
use Rattle.turn_lock.specs.declared.view.Stage.{Stage}
use Rattle.turn_lock.specs.declared.view.Stage.TheVariants.{Idle, Waiting, Acting}
use Rattle.turn_lock.specs.declared.view.View.{View}
use Rattle.turn_lock.specs.Views.{BeginsWith, Each, entries_by, fresh}

-- f of each item, added up
abbrev pub total : {A : Type 0} → (A → ℕ) → List A → ℕ
total f [] = 0
total f (x ∷ xs) = f x + total f xs

-- f of each number below n, added up
abbrev pub total_below : (ℕ → ℕ) → ℕ → ℕ
total_below f zero = 0
total_below f (suc n) = total_below f n + f n

-- 1 for a pass's number, and 0 for a note's
abbrev pub one_each : ℕ → ℕ
one_each zero = 0
one_each (suc n) = 1

-- the ticket of a stage, weighed by f
abbrev pub weigh : (ℕ → ℕ) → Stage → ℕ
weigh f Idle = 0
weigh f (Waiting t) = f t
weigh f (Acting t) = f t

abbrev pub ticket_of : Stage → ℕ
ticket_of stage = weigh (λ t. t) stage

-- 1 for who has the turn
abbrev pub turn_of : Stage → ℕ
turn_of Idle = 0
turn_of (Waiting t) = 0
turn_of (Acting t) = 1

-- an entry has the number of a pass
abbrev pub IsBy : {E : Type 0} → (E → ℕ) → ℕ → E → Type 0
IsBy number callers e = (1 ≤ number e) × (number e ≤ callers)

module _ {F E : Type 0} where
  abbrev pub ticket_in : (ℕ → ℕ) → View F E → ℕ
  ticket_in f v = weigh f v.stage

  abbrev pub passes_in : (ℕ → ℕ) → View F E → ℕ
  passes_in f v = total (λ t. f t.number) v.sights

  abbrev pub turn_in : View F E → ℕ
  turn_in v = turn_of v.stage

  -- the view with which the lock begins has every number
  abbrev pub opening_view : F → List E → ℕ → View F E
  opening_view f began callers = record { sights = map (fresh f began) (range_with_len 1 callers); stage = Idle }

  -- a sight is of the lock's fixed data and history, and a pass has seen all of its own entries
  pub record IsTrueSight (number : E → ℕ) (f : F) (began since : List E) (t : Sight F E) : Type 0 where
    pub fixed : t.fixed ≡ f
    pub began_is : t.began ≡ began
    pub prefix : BeginsWith since t.since
    pub own : 1 ≤ t.number → entries_by number t.number since ≡ entries_by number t.number t.since

  -- who waits or has the turn is one pass. Who has the turn has the ticket that is served, and has seen the whole history
  abbrev pub Stands : List E → ℕ → List (Sight F E) → Stage → Type 0
  Stands since served ts Idle = Unit {0}
  Stands since served ts (Waiting k) = (t : Sight F E) × (ts ≡ t ∷ []) × (1 ≤ t.number)
  Stands since served ts (Acting k) = (t : Sight F E) × (ts ≡ t ∷ []) × (1 ≤ t.number) × (t.since ≡ since) × (k ≡ served)

  pub record IsTrueView (number : E → ℕ) (f : F) (began since : List E) (served : ℕ) (v : View F E) : Type 0 where
    pub sights : Each (IsTrueSight number f began since) v.sights
    pub stage : Stands since served v.sights v.stage

module _ {V F E : Type 0} (fixed : V → F) (entries : V → List E) where
  -- the slot is at home, with a value that stands for the fixed data and the history
  pub record IsHome (f : F) (history : List E) (homes : List (maybe.Option (Option V))) : Type 0 where
    pub value : V
    pub there : homes ≡ maybe.some (Some value) ∷ []
    pub fixed_is : fixed value ≡ f
    pub entries_are : entries value ≡ history

  -- the slot is at home exactly where nobody has the turn
  abbrev pub Placed : F → List E → State (Option V) (View F E) → Type 0
  Placed f history s = ((total turn_in s.views ≡ 0) × IsHome f history s.homes) ⊎ ((total turn_in s.views ≡ 1) × (s.homes ≡ maybe.none ∷ []))

  -- What holds between any two steps, of a lock that began with these data and entries.
  -- Weighed in any way: the tickets that views hold are those from the one served up to the next one drawn, each once;
  -- and the numbers of the views are 1 to callers, each once. The words count tickets modulo 2^64.
  pub record Ruled (number : E → ℕ) (f : F) (began : List E) (callers : ℕ) (s : State (Option V) (View F E)) : Type 0 where
    pub since : List E
    pub drawn : ℕ
    pub served : ℕ
    pub few : callers ≤ 64
    pub words : s.words ≡ drawn % 2 ^ 64 ∷ served % 2 ^ 64 ∷ []
    pub tickets : (w : ℕ → ℕ) → total (ticket_in w) s.views + total_below w served ≡ total_below w drawn
    pub numbers : (w : ℕ → ℕ) → w 0 ≡ 0 → total (passes_in w) s.views ≡ total_below w (suc callers)
    pub placed : Placed f (began ++ since) s
    pub authors : Each (IsBy number callers) since
    pub views : Each (IsTrueView number f began since served) s.views
