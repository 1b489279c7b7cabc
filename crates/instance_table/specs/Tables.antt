-- The lists that a table of instances keeps beside each other: of instances, of their briefs and of
-- their sums. In each the entry at place k is that of the instance with number k + 1.
use Rattle.std.specs.Prelude.{ℕ, ◌-◌, Bool, false, not, nat_eq, if◌then◌else◌, List, [], length, map, replicate, slice_index_or, slice_set, Option, Some, None}
use Rattle.std.specs.List.{range_with_len, slice_get}
use Rattle.std.specs.declared.alloc.Global.{Global}
use Rattle.std.specs.declared.sync.Arc.{Arc}
use Rattle.ring_spec.specs.Ring.{ring_sum}
use Rattle.param_set.specs.declared.params.Params.{Params}
use Rattle.param_set.specs.Moduli.{digit_rows}
use Rattle.proto_names.specs.Names.{rows_of, is_void}
use Rattle.proto_names.specs.Instances.{instance, lacks, missing}
use Rattle.proto_names.specs.Roles.{Role, last_place}
use Rattle.proto_names.specs.declared.signature.Signature.{Signature}
use Rattle.proto_names.specs.declared.instance.Instance.{Instance}
use Rattle.instance_table.specs.declared.brief.Brief.{Brief}
use Rattle.instance_table.specs.declared.share.Count.{Count}
use Rattle.instance_table.specs.declared.share.Count.TheVariants.{Counted, Completed}

-- ---- an instance's role, as its brief tells it

abbrev pub brief_role : Brief → Role
brief_role brief = record {
  signature = brief.signature;
  id = brief.id;
  set = brief.set;
  round1 = brief.round1;
  group = last_place brief.groups.value;
}

abbrev pub role_told : Arc Brief Global → Role
role_told brief = brief_role brief.value

-- ---- sums, each a list of polynomials

abbrev pub row_count : List (List ℕ) → ℕ
row_count rows = length rows

-- how many the sums of an instance have: as many as a share of its signature
abbrev pub row_counts : Params → Instance → ℕ
row_counts p i = rows_of i.signature (digit_rows p.q p.digit_bits)

-- those to which no share is added
unfoldable pub no_sums : Params → Signature → List (List ℕ)
no_sums p σ = replicate (rows_of σ (digit_rows p.q p.digit_bits)) (replicate p.n 0)

-- row k once a share is added, and all rows
unfoldable pub row_sum : ℕ → ℕ → List (List ℕ) → List (List ℕ) → ℕ → List ℕ
row_sum q n fs gs k = ring_sum q n (slice_index_or fs k []) (slice_index_or gs k [])

unfoldable pub rows_sum : ℕ → ℕ → List (List ℕ) → List (List ℕ) → List (List ℕ)
rows_sum q n fs gs = map (row_sum q n fs gs) (range_with_len 0 (length fs))

-- the sums of all instances once it is added to those of one
unfoldable pub after_rows : ℕ → ℕ → ℕ → List (List ℕ) → List (List (List ℕ)) → List (List (List ℕ))
after_rows q n id rows sums = slice_set sums (id - 1) (rows_sum q n (slice_index_or sums (id - 1) []) rows)

-- ---- the instance with a number

-- whether it is issued, opened, and lacks the share of a party that takes part
unfoldable pub awaits : List Instance → ℕ → ℕ → Bool
awaits is id p = elim (instance is id) [
  | None ↦ false
  | Some i ↦ lacks p i
]

-- whether it is issued and isn't void
unfoldable pub stands : List Instance → ℕ → Bool
stands is id = elim (instance is id) [
  | None ↦ false
  | Some i ↦ not (is_void i.stage)
]

-- what is told of it in one of the lists, as long as it stands
unfoldable pub told : {X : Type 0} → List Instance → List X → ℕ → Option X
told is xs id = if stands is id then slice_get xs (id - 1) else None

-- what the count of a share tells that leaves so many missing
unfoldable pub outcome : ℕ → Count
outcome n = if nat_eq n 0 then Completed else Counted n

-- that of a party's share for it
unfoldable pub count_of : List Instance → ℕ → ℕ → Option Count
count_of is id p = elim (instance is id) [
  | None ↦ None
  | Some i ↦ Some (outcome (missing p i))
]
