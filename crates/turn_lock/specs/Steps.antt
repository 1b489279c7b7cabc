-- The kinds of atomic step, and what each tells the seat that makes it.
-- draw: an addition to the word `ticket`; the seat waits with the number found.
-- look: a load of the word `serving`; where it is the seat's ticket, the seat has the turn, holds the slot, and has seen the whole history.
-- take out, put in: exchanges of the slot, by the seat that holds it.
-- pass on: an addition to the word `serving`; the slot comes home, and what the value then stands for is what the seat has seen.
-- number: a load, by which the first seat hands its next number to a new one. split: a load, by which a note is cut off a pass.
-- join: a load, by which one seat takes in what another has seen. A look behind it tells the seat a history that begins with both.
use Rattle.std.specs.Prelude.{◌≡◌, ◌==◌, ℕ, ◌%◌, ◌^◌, ◌≤◌, Option, Some, MatchBool, List, [], ◌∷◌, ◌++◌, map, take, drop, length}
use Rattle.atomic_table.specs.Table.{Me, Step}
use Rattle.turn_lock.specs.declared.view.Sight.{Sight}
use Rattle.turn_lock.specs.declared.view.Stage.{Stage}
use Rattle.turn_lock.specs.declared.view.Stage.TheVariants.{Idle, Waiting, Acting}
use Rattle.turn_lock.specs.declared.view.View.{View}
use Rattle.turn_lock.specs.Views.{BeginsWith, Each, entries_by, alone, grown, unnumbered}
use Rattle.turn_lock.specs.Rule.{ticket_of}

module _ {F E : Type 0} where
  -- the view at another stage
  abbrev pub staged : View F E → Stage → View F E
  staged v stage = record { sights = v.sights; stage = stage }

  -- the pass has a number, and is at this stage
  pub record IsPassAt (v : View F E) (stage : Stage) : Type 0 where
    pub sight : Sight F E
    pub is : v ≡ alone sight stage
    pub numbered : 1 ≤ sight.number

  -- the sights that the numbering seat keeps, and the one that it hands out
  abbrev pub kept_back : View F E → View F E
  kept_back v = record { sights = drop 1 v.sights; stage = Idle }

  abbrev pub handed_out : View F E → View F E
  handed_out v = record { sights = take 1 v.sights; stage = Idle }

  -- a pass of which a note is made, and what the note copies
  abbrev pub copied : View F E → View F E
  copied v = record { sights = v.sights; stage = Idle }

  abbrev pub noted : View F E → View F E
  noted v = record { sights = map unnumbered v.sights; stage = Idle }

  abbrev pub joined : View F E → View F E → View F E
  joined v w = record { sights = v.sights ++ w.sights; stage = Idle }

  -- a seat that was joined to another
  abbrev pub spent : View F E
  spent = record { sights = []; stage = Idle }

module _ {V F E : Type 0} where
  abbrev pub drew : Step (Option V) → Me (Option V) (View F E) → ℕ → Me (Option V) (View F E) → Type 0
  drew st me n me' = (t : ℕ) × (n ≡ t % 2 ^ 64) × (me' ≡ (staged me.0 (Waiting t), me.1))

  -- the pass now knows that the history has gone on, by others, and where a join brought it the sight of a note, that this one begins it too
  pub record Recalls (number : E → ℕ) (me me' : Me (Option V) (View F E)) : Type 0 where
    pub sight : Sight F E
    pub told : Sight F E
    pub more : List E
    pub was : me.0.sights ≡ sight ∷ told ∷ []
    pub now : me' ≡ (alone (grown sight more) Idle, me.1)
    pub others : entries_by number sight.number more ≡ []
    pub alike : told.began ≡ sight.began
    pub begins : BeginsWith (sight.since ++ more) told.since

module _ {V F E : Type 0} (fixed : V → F) (entries : V → List E) (number : E → ℕ) where
  -- the pass has the turn and the value, which stands for what the pass has then seen. What is new to it is by others
  pub record Finds (me me' : Me (Option V) (View F E)) : Type 0 where
    pub sight : Sight F E
    pub more : List E
    pub ticket : ℕ
    pub value : V
    pub was : me.0.sights ≡ sight ∷ []
    pub numbered : 1 ≤ sight.number
    pub now : me' ≡ (alone (grown sight more) (Acting ticket), (0, Some value) ∷ [])
    pub others : entries_by number sight.number more ≡ []
    pub fixed_is : fixed value ≡ sight.fixed
    pub entries_are : entries value ≡ sight.began ++ (sight.since ++ more)

  -- what the act leaves to a pass that has the turn: the value stands for what the pass had seen, and then entries of its own
  pub record IsLeft (v : View F E) (value : V) : Type 0 where
    pub sight : Sight F E
    pub ticket : ℕ
    pub added : List E
    pub is : v ≡ alone sight (Acting ticket)
    pub numbered : 1 ≤ sight.number
    pub fixed_is : fixed value ≡ sight.fixed
    pub entries_are : entries value ≡ sight.began ++ (sight.since ++ added)
    pub own : Each (λ e. number e ≡ sight.number) added

  -- that value is back in the slot
  pub record IsBack (me : Me (Option V) (View F E)) : Type 0 where
    pub value : V
    pub there : me.1 ≡ (0, Some value) ∷ []
    pub left : IsLeft me.0 value

  -- at another seat's ticket nothing changes
  abbrev pub looked : Step (Option V) → Me (Option V) (View F E) → ℕ → Me (Option V) (View F E) → Type 0
  looked st me n me' = MatchBool (n == ticket_of me.0.stage % 2 ^ 64) (Finds me me') (me' ≡ me)

module _ {V F E : Type 0} (entries : V → List E) where
  -- the sight after a turn that left a value with this history
  abbrev pub sight_after : List E → Sight F E → Sight F E
  sight_after es t = record { number = t.number; fixed = t.fixed; began = t.began; since = drop (length t.began) es }

  abbrev pub view_after : View F E → List (ℕ × Option V) → View F E
  view_after v ((k, Some y) ∷ c) = record { sights = map (sight_after (entries y)) v.sights; stage = Idle }
  view_after v c = v

  abbrev pub passed_on : Step (Option V) → Me (Option V) (View F E) → ℕ → Me (Option V) (View F E) → Type 0
  passed_on st me n me' = me' ≡ (view_after me.0 me.1, [])
