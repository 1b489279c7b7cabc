-- Sets of parties. A set is a number of 32 bits, of which bit p - 1 stands for party p.
use Rattle.std.specs.Prelude.{ℕ, ◌-◌, ◌/◌, ◌%◌, ◌^◌, Bool, nat_eq, nat_le, ◌&&◌, List, length, filter}
use Rattle.std.specs.List.{range_with_len}

-- whether party p is in a set; only the parties 1 to 32 can be
unfoldable pub has : ℕ → ℕ → Bool
has set p = nat_le 1 p && nat_le p 32 && nat_eq (set / 2 ^ (p - 1) % 2) 1

-- the members of a set among the parties 1 to n, rising
unfoldable pub members_to : ℕ → ℕ → List ℕ
members_to n set = filter (has set) (range_with_len 1 n)

-- all members of a set, rising
unfoldable pub members : ℕ → List ℕ
members set = members_to 32 set

-- how many they are
abbrev pub count : ℕ → ℕ
count set = length (members set)
