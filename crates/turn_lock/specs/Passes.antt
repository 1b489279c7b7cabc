-- The words of the public contracts.
use Rattle.std.specs.Prelude.{◌≡◌, ℕ, ◌+◌, ◌<◌, Option, Some, List, [], ◌++◌, length, slice_index_or, All}
use Rattle.atomic_table.specs.Seated.{TableId}
use Rattle.turn_lock.specs.declared.kept.Kept.{Ghosts}
use Rattle.turn_lock.specs.declared.pass.Pass.{Pass}
use Rattle.turn_lock.specs.declared.pass.Note.{Note}
use Rattle.turn_lock.specs.declared.lock.TurnLock.{TurnLock}
use Rattle.turn_lock.specs.Views.{BeginsWith, Each, entries_by, fixed_in, began_in, since_in}
use Rattle.turn_lock.specs.Rule.{IsBy}

-- what tells one lock from another
abbrev pub id_of : {V F E : Type 0} → TurnLock V F E → TableId
id_of l = l.table.shared.table_id

-- how many passes the lock has
abbrev pub callers_of : {V F E : Type 0} → TurnLock V F E → ℕ
callers_of l = l.callers

module _ {V F E : Type 0} {K : Ghosts V F E} where
  -- which lock the pass is of
  abbrev pub lock_of : Pass V F E K → TableId
  lock_of p = p.seat.table_id

  abbrev pub number_of : Pass V F E K → ℕ
  number_of p = p.number

  -- the fixed data of the lock's value
  abbrev pub fixed_of : Pass V F E K → Option F
  fixed_of p = fixed_in p.seat.me.0

  -- the history that the lock began with, and what the pass has seen behind it
  abbrev pub began : Pass V F E K → List E
  began p = began_in p.seat.me.0

  abbrev pub since : Pass V F E K → List E
  since p = since_in p.seat.me.0

  -- the history that the pass has seen
  abbrev pub seen : Pass V F E K → List E
  seen p = began p ++ since p

  -- the pass's own entries: those with its number, behind the history that the lock began with
  abbrev pub mine : Pass V F E K → List E
  mine p = entries_by K.number p.number (since p)

  -- of a note: its lock, and the history that the pass had seen which made it
  abbrev pub lock_in : Note V F E K → TableId
  lock_in n = n.seat.table_id

  abbrev pub seen_in : Note V F E K → List E
  seen_in n = began_in n.seat.me.0 ++ since_in n.seat.me.0

  -- it is the same pass, whatever it has seen
  abbrev pub IsSamePass : Pass V F E K → Pass V F E K → Type 0
  IsSamePass p q = (lock_of q ≡ lock_of p) × (number_of q ≡ number_of p) × (fixed_of q ≡ fixed_of p) × (began q ≡ began p)

  -- a pass that has seen the list es and made no entry
  abbrev pub IsNewPass : TableId → ℕ → F → List E → Pass V F E K → Type 0
  IsNewPass lock n f es p = (lock_of p ≡ lock) × (number_of p ≡ n) × (fixed_of p ≡ Some f) × (began p ≡ es) × (since p ≡ [])

  -- new passes for so many callers, by rising number from 1 on
  pub record AreNew (lock : TableId) (callers : ℕ) (f : F) (es : List E) (ps : List (Pass V F E K)) : Type 0 where
    pub count : length ps ≡ callers
    pub each : (k : ℕ) (d : Pass V F E K) → k < length ps → IsNewPass lock (k + 1) f es (slice_index_or ps k d)

  -- they are the passes of this lock, by rising number from 1 on
  pub record AreAll (lock : TableId) (callers : ℕ) (ps : List (Pass V F E K)) : Type 0 where
    pub count : length ps ≡ callers
    pub of_lock : All (λ p. lock_of p ≡ lock) ps
    pub numbers : (k : ℕ) (d : Pass V F E K) → k < length ps → number_of (slice_index_or ps k d) ≡ k + 1

  -- whatever the value is when the turn comes, p may act on it: its fixed data are the pass's,
  -- and its history is legal, begins with what p has seen, and has no entry of p behind that
  abbrev pub MayTake : (V → Type 0) → Pass V F E K → Type 0
  MayTake may p = (v : V) (others : List E) → fixed_of p ≡ Some (K.fixed v) → K.IsLegal (K.fixed v) (K.entries v) → K.entries v ≡ seen p ++ others → entries_by K.number p.number others ≡ [] → may v

  -- A turn from p to q, which appended `added`. It found the value `before`, behind entries of others, and left the value `after`
  pub record TakesTurn (says : V → V → Type 0) (added : List E) (p q : Pass V F E K) : Type 0 where
    pub before : V
    pub after : V
    pub others : List E
    pub not_mine : entries_by K.number p.number others ≡ []
    pub found : K.entries before ≡ seen p ++ others
    pub left : K.entries after ≡ K.entries before ++ added
    pub seen_now : seen q ≡ K.entries after
    pub fixed_before : fixed_of p ≡ Some (K.fixed before)
    pub fixed_after : fixed_of q ≡ Some (K.fixed after)
    pub legal : K.IsLegal (K.fixed after) (seen q)
    pub said : says before after

  -- the value stands for the pass's fixed data, and for what the lock began with and then the entries `later`.
  -- The pass has seen a beginning of that, and those of `later` that have the pass's number are its own
  pub record IsPartOf (value : V) (later : List E) (p : Pass V F E K) : Type 0 where
    pub fixed : fixed_of p ≡ Some (K.fixed value)
    pub whole : K.entries value ≡ began p ++ later
    pub prefix : BeginsWith later (since p)
    pub own : entries_by K.number (number_of p) later ≡ mine p

  -- the value stands for the whole history of these passes: each entry that is later than the lock's beginning has the number of one of them
  pub record IsWhole (value : V) (ps : List (Pass V F E K)) : Type 0 where
    pub later : List E
    pub authors : Each (IsBy K.number (length ps)) later
    pub each : All (IsPartOf value later) ps
