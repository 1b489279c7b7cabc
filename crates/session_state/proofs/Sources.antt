-- What stands in lists of which one entry may be a new one.
use Rattle.std.proofs.Common.{◌≡◌, ◌≢◌, sym, ℕ, zero, suc, ◌-◌, ◌<◌, ◌≤◌, Bool, true, false, List, length, get_or, set, Some, None, arith}
use Rattle.std.specs.Prelude.{if◌then◌else◌}
use Rattle.std.specs.List.{slice_get}
use Rattle.std.proofs.lemmas.List.{get_or-set_same, get_or-set_other}
use Rattle.std.proofs.lemmas.Option.{slice_get_within, get_or_from_slice_get}
use Rattle.proto_names.specs.Instances.{instance}
use Rattle.proto_names.specs.declared.instance.Instance.{Instance}
use Rattle.instance_table.specs.Tables.{stands, told}

-- one that stands was issued
pub stands_first : (is : List Instance) (id : ℕ) → stands is id ≡ true → 1 ≤ id
unfolding stands instance
stands_first is zero e = absurd (let z = e in cc)
stands_first is (suc id) e = omega arith

-- what is told of it stands at its place
pub record IsAt {X : Type 0} (xs : List X) (k : ℕ) (d x : X) : Type 0 where
  pub within : k < length xs
  pub value : x ≡ get_or xs k d

pub told_at : {X : Type 0} (is : List Instance) (xs : List X) (id : ℕ) (d x : X) → told is xs id ≡ Some x → IsAt xs (id - 1) d x
unfolding told
told_at {X} is xs id d x e = at (stands is id) e
  where
    at : (b : Bool) → (if b then slice_get xs (id - 1) else None) ≡ Some x → IsAt xs (id - 1) d x
    at true e = record { within = slice_get_within xs (id - 1) x e; value = sym (get_or_from_slice_get xs (id - 1) x d e) }
    at false e = absurd (let z = e in cc)

-- in a list with a new entry at place p
pub new_at : {X : Type 0} (xs : List X) (k p : ℕ) (d x y : X) → k ≡ p → IsAt xs k d x → y ≡ get_or (set xs p y) k d
new_at {X} xs k p d x y same there = rw (← same) (sym (get_or-set_same xs k y d there.within))

pub other_at : {X : Type 0} (xs : List X) (k p : ℕ) (d x y : X) → k ≢ p → IsAt xs k d x → x ≡ get_or (set xs p y) k d
other_at {X} xs k p d x y other there = rw (get_or-set_other xs p k y d other) there.value
