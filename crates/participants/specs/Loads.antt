-- How many instances wait for each party, and who takes part in a new one.
use Rattle.std.specs.Prelude.{ℕ, zero, suc, ◌+◌, ◌-◌, nat_le, if◌then◌else◌, List, [], ◌∷◌, map, slice_index_or, Option, None, Some}
use Rattle.std.specs.List.{range_with_len, count_by}
use Rattle.share_spec.specs.Sets.{has, members}
use Rattle.proto_names.specs.Groups.{with_party, without_party}
use Rattle.proto_names.specs.Instances.{lacks}
use Rattle.proto_names.specs.declared.instance.Instance.{Instance}

-- ---- loads

-- the load of a party: how many opened instances have it in their set and lack its share
unfoldable pub load : List Instance → ℕ → ℕ
load is p = count_by (lacks p) is

-- the loads of the parties 1 to 32
unfoldable pub loads_of : List Instance → List ℕ
loads_of is = map (load is) (range_with_len 1 32)

-- the load of one of them
abbrev pub load_in : List ℕ → ℕ → ℕ
load_in loads p = slice_index_or loads (p - 1) 0

-- a load with one more where the party is in a set, and the loads of all 32 so
unfoldable pub one_more : ℕ → List ℕ → ℕ → ℕ
one_more set loads p = if has set p then load_in loads p + 1 else load_in loads p

unfoldable pub raised : ℕ → List ℕ → List ℕ
raised set loads = map (one_more set loads) (range_with_len 1 32)

-- ---- who comes first

-- the party that comes first of two, of which the second has the higher number: the one whose load is
-- lower, and the first where they are the same
unfoldable pub earlier : List ℕ → Option ℕ → ℕ → Option ℕ
earlier loads None q = Some q
earlier loads (Some p) q = if nat_le (load_in loads p) (load_in loads q) then Some p else Some q

-- of a party and of those of a rising list behind it
unfoldable pub first_from : List ℕ → Option ℕ → List ℕ → Option ℕ
first_from loads first [] = first
first_from loads first (p ∷ ps) = first_from loads (earlier loads first p) ps

-- of a rising list, which may be empty
abbrev pub first_of : List ℕ → List ℕ → Option ℕ
first_of loads ps = first_from loads None ps

-- ---- who takes part

-- those who were taken with the first k of the rest: the party that comes first, then the first of the
-- others, and so on
unfoldable pub chosen_from : ℕ → List ℕ → ℕ → ℕ → ℕ
chosen_from zero loads rest taken = taken
chosen_from (suc k) loads rest taken = elim (first_of loads (members rest)) [
  | None ↦ taken
  | Some p ↦ chosen_from k loads (without_party rest p) (with_party taken p)
]

-- the first k parties of a set, by their loads, or all where it has fewer
unfoldable pub chosen : ℕ → List ℕ → ℕ → ℕ
chosen k loads set = chosen_from k loads set 0
