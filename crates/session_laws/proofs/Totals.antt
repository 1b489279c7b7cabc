-- Sums of shares: nobody's are zeros, one more party's adds its own, and the same parties' are the same.
use Rattle.std.proofs.Common.{◌≡◌, ◌≢◌, ◌∙◌, sym, ap, subst, refl, ℕ, zero, suc, ◌+◌, ◌<◌, ◌≤◌, Bool, true, false, cond, inl, inr, List, [], ◌∷◌, length, map, filter, get_or, slice_index_or, replicate, arith}
use Rattle.std.specs.Prelude.{pos, IsPermutation}
use Rattle.std.specs.List.{range_with_len}
use Rattle.std.proofs.lemmas.Bool.{both_ways, cases_Bool, cases_eq, false_from_ne_true}
use Rattle.std.proofs.lemmas.List.{ext_get_or, get_or-replicate, length-replicate}
use Rattle.std.proofs.lemmas.List.Elements.{filter_agree}
use Rattle.std.proofs.lemmas.List.FromFn.{get_or-map-range_with_len, length-map-range_with_len}
use Rattle.std.proofs.lemmas.List.Sorted.{IsPermutation-refl, IsPermutation-cons, IsPermutation-trans, IsPermutation-middle, IsPermutation-map}
use Rattle.std.proofs.Math.Nat.{mod-eq_of_lt}
use Rattle.ring_spec.specs.Ring.{residue, ring_sum}
use Rattle.ring_spec.specs.Aggregate.{ring_total}
use Rattle.ring_laws.proofs.Residues.{residues_unique}
use Rattle.ring_laws.proofs.Rings.{ring_sum_commutes}
use Rattle.ring_laws.proofs.Aggregates.{total_permutation}
use Rattle.share_spec.specs.Sets.{has, members_to, members}
use Rattle.proto_names.specs.Names.{rows_of}
use Rattle.proto_names.specs.Groups.{with_party, number_outside}
use Rattle.proto_names.specs.Roles.{Role}
use Rattle.instance_table.specs.Tables.{row_sum, rows_sum}
use Rattle.instance_table.proofs.Added.{rows_sum-number}
use Rattle.session_rules.proofs.PartySets.{has_nobody, with_keeps, with_has, with_cases, nobody_outside}
use Rattle.session_spec.specs.Settings.{Setting, gadget_rows}
use Rattle.session_spec.specs.Shares.{share_rows, share_row, sum_row, sum_rows}

-- ---- members

-- the same parties are the same members
pub members_agree : (a b : ℕ) → ((p : ℕ) → has a p ≡ has b p) → members a ≡ members b
unfolding members members_to
members_agree a b h = filter_agree (has a) (has b) h (range_with_len 1 32)

none_kept : (xs : List ℕ) → filter (has 0) xs ≡ []
none_kept [] = refl
none_kept (x ∷ xs) = rw (has_nobody x) (none_kept xs)

pub no_members : members 0 ≡ []
unfolding members members_to
no_members = none_kept (range_with_len 1 32)

-- once nobody of a set is missing, and none sent but its members, those who sent are the set
pub all_sent : (set sent : ℕ) → ((p : ℕ) → has sent p ≡ true → has set p ≡ true) → number_outside set sent ≡ 0 → (p : ℕ) → has sent p ≡ has set p
all_sent set sent senders none p = elim (cases_Bool (has set p)) [
  | inl member ↦ nobody_outside set sent p none member ∙ sym member
  | inr stranger ↦ false_from_ne_true (has sent p) (λ h. both_ways (has set p) stranger (senders p h)) ∙ sym stranger
]

-- a test that one number more passes
record OneMore (b more : ℕ → Bool) (p : ℕ) : Type 0 where
  fails : b p ≡ false
  passes : more p ≡ true
  others : (x : ℕ) → x ≢ p → more x ≡ b x

past_it : (b more : ℕ → Bool) (p : ℕ) → OneMore b more p → (a n : ℕ) → p < a → filter more (range_with_len a n) ≡ filter b (range_with_len a n)
past_it b more p o a zero l = refl
past_it b more p o a (suc n) l = rw (o.others a (λ e. omega arith), past_it b more p o (a + 1) n (omega arith)) refl

kept_front : (here : Bool) (a p : ℕ) (xs ys : List ℕ) → IsPermutation xs (p ∷ ys) → IsPermutation (cond here (a ∷ xs) xs) (p ∷ cond here (a ∷ ys) ys)
kept_front false a p xs ys h = h
kept_front true a p xs ys h = IsPermutation-trans (a ∷ xs) (a ∷ p ∷ ys) (p ∷ a ∷ ys) (IsPermutation-cons a xs (p ∷ ys) h) (IsPermutation-middle (a ∷ []) p ys)

more_kept : (b more : ℕ → Bool) (p : ℕ) → OneMore b more p → (a n : ℕ) → a ≤ p → p < a + n → IsPermutation (filter more (range_with_len a n)) (p ∷ filter b (range_with_len a n))
more_kept b more p o a zero l m = absurd (omega arith)
more_kept b more p o a (suc n) l m =
    let xs = filter more (range_with_len (a + 1) n) in
    let ys = filter b (range_with_len (a + 1) n) in
    elim (cases_eq a p) [
      | inl e ↦
          let same : xs ≡ ys = past_it b more p o (a + 1) n (omega arith) in
          let front : cond (more a) (a ∷ xs) xs ≡ p ∷ ys = subst (λ (z : ℕ). cond (more z) (z ∷ xs) xs ≡ p ∷ ys) (sym e) (rw o.passes (ap (λ (z : List ℕ). p ∷ z) same)) in
          let none : cond (b a) (a ∷ ys) ys ≡ ys = subst (λ (z : ℕ). cond (b z) (z ∷ ys) ys ≡ ys) (sym e) (rw o.fails refl) in
          subst (λ (z : List ℕ). IsPermutation z (p ∷ cond (b a) (a ∷ ys) ys)) (sym front)
          (subst (λ (z : List ℕ). IsPermutation (p ∷ ys) (p ∷ z)) (sym none) (IsPermutation-refl (p ∷ ys)))
      | inr other ↦
          subst (λ (z : Bool). IsPermutation (cond z (a ∷ xs) xs) (p ∷ cond (b a) (a ∷ ys) ys)) (sym (o.others a other))
          (kept_front (b a) a p xs ys (more_kept b more p o (a + 1) n (omega arith) (omega arith)))
    ]

with_other : (set p x : ℕ) → 1 ≤ p → x ≢ p → has (with_party set p) x ≡ has set x
with_other set p x first other = elim (cases_Bool (has set x)) [
  | inl there ↦ rw there (with_keeps set p x there)
  | inr none ↦ rw none (false_from_ne_true (has (with_party set p) x) (λ h. elim (with_cases set p x first h) [
    | inl same ↦ other same
    | inr there ↦ both_ways (has set x) none there
  ]))
]

-- one more party is one more member
pub one_more_member : (set p : ℕ) → 1 ≤ p → p ≤ 32 → has set p ≡ false → IsPermutation (members (with_party set p)) (p ∷ members set)
unfolding members members_to
one_more_member set p first last none =
    more_kept (has set) (has (with_party set p)) p (record { fails = none; passes = with_has set p first last; others = λ x other. with_other set p x first other }) 1 32 first (omega arith)

-- ---- rows

zero_total : (q n : ℕ) → 0 < q → ring_total q n [] ≡ replicate n 0
unfolding ring_total residue
zero_total q n h = sym (residues_unique q n (λ i. pos 0) (replicate n 0) (length-replicate n 0) (λ i r. get_or-replicate n i 0 0 r ∙ sym (mod-eq_of_lt h)))

one_total : (q n : ℕ) (g : ℕ → List ℕ) (p : ℕ) (ps : List ℕ) → ring_total q n (map g (p ∷ ps)) ≡ ring_sum q n (ring_total q n (map g ps)) (g p)
unfolding ring_total
one_total q n g p ps = ring_sum_commutes q n (g p) (ring_total q n (map g ps))

module _ (w : Setting) (seeds : List (List ℕ)) (role : Role) (polys : List (List ℕ)) where
  sum_at : (sent r : ℕ) → r < rows_of role.signature (gadget_rows w) → get_or (sum_rows w seeds role polys sent) r [] ≡ sum_row w seeds role polys sent r
  unfolding sum_rows
  sum_at sent r l = get_or-map-range_with_len (sum_row w seeds role polys sent) 0 (rows_of role.signature (gadget_rows w)) r r [] l (omega arith)

  pub sums_number : (sent : ℕ) → length (sum_rows w seeds role polys sent) ≡ rows_of role.signature (gadget_rows w)
  unfolding sum_rows
  sums_number sent = length-map-range_with_len (sum_row w seeds role polys sent) 0 (rows_of role.signature (gadget_rows w))

  nobody_row : (r : ℕ) → 0 < w.numbers.q → sum_row w seeds role polys 0 r ≡ replicate w.numbers.n 0
  unfolding sum_row
  nobody_row r h = rw no_members (zero_total w.numbers.q w.numbers.n h)

  -- where nobody has sent they are zeros
  pub nobody_sums : 0 < w.numbers.q → replicate (rows_of role.signature (gadget_rows w)) (replicate w.numbers.n 0) ≡ sum_rows w seeds role polys 0
  nobody_sums h =
      let many = rows_of role.signature (gadget_rows w) in
      let zeros = replicate w.numbers.n 0 in
      ext_get_or [] (replicate many zeros) (sum_rows w seeds role polys 0) (length-replicate many zeros ∙ sym (sums_number 0))
      (λ r l. let within : r < many = omega (arith, length-replicate many zeros) in
      get_or-replicate many r zeros [] within ∙ sym (sum_at 0 r within ∙ nobody_row r h))

  same_row : (sent other r : ℕ) → members sent ≡ members other → sum_row w seeds role polys sent r ≡ sum_row w seeds role polys other r
  unfolding sum_row
  same_row sent other r e = rw e refl

  -- those of the same parties are the same
  pub same_sums : (sent other : ℕ) → ((p : ℕ) → has sent p ≡ has other p) → sum_rows w seeds role polys sent ≡ sum_rows w seeds role polys other
  same_sums sent other h =
      ext_get_or [] (sum_rows w seeds role polys sent) (sum_rows w seeds role polys other) (sums_number sent ∙ sym (sums_number other))
      (λ r l. let within : r < rows_of role.signature (gadget_rows w) = omega (arith, sums_number sent) in
      sum_at sent r within ∙ same_row sent other r (members_agree sent other h) ∙ sym (sum_at other r within))

  more_row : (sent p r : ℕ) → 0 < w.numbers.q → 1 ≤ p → p ≤ 32 → has sent p ≡ false
      → ring_sum w.numbers.q w.numbers.n (sum_row w seeds role polys sent r) (slice_index_or (share_rows w seeds role polys p) r []) ≡ sum_row w seeds role polys (with_party sent p) r
  unfolding sum_row
  more_row sent p r h first last none =
      let q = w.numbers.q in let n = w.numbers.n in let g = share_row w seeds role polys r in
      let one = one_more_member sent p first last none in
      sym (one_total q n g p (members sent))
      ∙ total_permutation q n (map g (members (with_party sent p))) (map g (p ∷ members sent)) h (IsPermutation-map g (members (with_party sent p)) (p ∷ members sent) one)

  rows_sum-at : (fs gs : List (List ℕ)) (r : ℕ) → r < length fs → get_or (rows_sum w.numbers.q w.numbers.n fs gs) r [] ≡ ring_sum w.numbers.q w.numbers.n (get_or fs r []) (get_or gs r [])
  unfolding rows_sum row_sum
  rows_sum-at fs gs r l = get_or-map-range_with_len (row_sum w.numbers.q w.numbers.n fs gs) 0 (length fs) r r [] l (omega arith)

  -- the share of one more party makes them those of one more party
  pub more_sums : (sent p : ℕ) → 0 < w.numbers.q → 1 ≤ p → p ≤ 32 → has sent p ≡ false
      → rows_sum w.numbers.q w.numbers.n (sum_rows w seeds role polys sent) (share_rows w seeds role polys p) ≡ sum_rows w seeds role polys (with_party sent p)
  more_sums sent p h first last none =
      let q = w.numbers.q in let n = w.numbers.n in
      let was = sum_rows w seeds role polys sent in
      let share = share_rows w seeds role polys p in
      ext_get_or [] (rows_sum q n was share) (sum_rows w seeds role polys (with_party sent p)) (rows_sum-number q n was share ∙ sums_number sent ∙ sym (sums_number (with_party sent p)))
      (λ r l.
      let within : r < rows_of role.signature (gadget_rows w) = omega (arith, rows_sum-number q n was share, sums_number sent) in
      rows_sum-at was share r (omega (arith, sums_number sent))
      ∙ ap (λ (z : List ℕ). ring_sum q n z (get_or share r [])) (sum_at sent r within)
      ∙ more_row sent p r h first last none
      ∙ sym (sum_at (with_party sent p) r within))
