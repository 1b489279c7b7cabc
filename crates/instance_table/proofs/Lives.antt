-- The instances that aren't void, once one is given up, has a share counted, is issued, or lacks the share of
-- a party that is lost.
use Rattle.std.proofs.Common.{◌≡◌, ℕ, ◌+◌, ◌-◌, ◌≤◌, List, [], ◌∷◌, ◌++◌, map, length, get_or, ap, ◌∙◌, refl, arith}
use Rattle.std.specs.Prelude.{All, IsTrue, true, filter}
use Rattle.std.specs.List.{range_with_len}
use Rattle.std.proofs.lemmas.List.Sums.{length-filter, count_by-le-length}
use Rattle.std.proofs.lemmas.List.Elements.{All-head, All-tail, filter-append}
use Rattle.std.proofs.lemmas.Option.{slice_get_within, get_or_from_slice_get}
use Rattle.std.proofs.lemmas.Grind.{common_steps}
use Rattle.std.proofs.lemmas.Bool.Decides.{nat_tests}
use Rattle.proto_names.specs.Instances.{instance, lacks, id_of, counted_at, with_share, after_void, after_share, after_lost, owed_shares}
use Rattle.proto_names.specs.declared.instance.Instance.{Instance}
use Rattle.participants.specs.Live.{is_live, live_ones}
use Rattle.participants.specs.Loads.{load, loads_of, load_in}
use Rattle.participants.proofs.Live.{filter_kept, void_waits}
use Rattle.participants.proofs.Raising.{load_at}
use Rattle.instance_table.specs.Tables.{awaits}
use Rattle.instance_table.specs.Lists.{is_other, keeps}
use Rattle.instance_table.proofs.Places.{id_at}

-- one that is given up is left out
pub live_void : (id by : ℕ) (is : List Instance) → live_ones (after_void id by is) ≡ filter (is_other id) (live_ones is)
unfolding live_ones after_void
live_void id by [] = refl
live_void id by (i ∷ is) = let rest = live_void id by is in grind (arith, common_steps, nat_tests, rest)

-- those that lack the share of a party that is lost are left out
pub live_lost : (p : ℕ) (is : List Instance) → live_ones (after_lost p is) ≡ filter (keeps p) (live_ones is)
unfolding live_ones after_lost lacks
live_lost p [] = refl
live_lost p (i ∷ is) = let rest = live_lost p is in grind (arith, common_steps, nat_tests, rest)

-- one that has a share counted stays, and no other changes
abbrev StandsUnder : ℕ → Instance → Type 0
StandsUnder id i = i.id ≡ id → is_live i ≡ true

live_share : (id p : ℕ) (is : List Instance) → All (StandsUnder id) is → live_ones (after_share id p is) ≡ map (counted_at id p) (live_ones is)
unfolding live_ones after_share with_share
live_share id p [] a = refl
live_share id p (i ∷ is) a =
    let rest = live_share id p is (All-tail (StandsUnder id) i is a) in
    let here = All-head (StandsUnder id) i is a in
    grind (arith, common_steps, nat_tests, rest, here)

awaited_stands : (is : List Instance) (id p : ℕ) → map id_of is ≡ range_with_len 1 (length is) → IsTrue (awaits is id p) → All (StandsUnder id) is
unfolding awaits instance lacks
awaited_stands is id p e t k d l at =
    let there : (get_or is k d).id ≡ k + 1 = id_at is k d e l in
    let same : id - 1 ≡ k = omega arith in
    grind (arith, common_steps, nat_tests, slice_get_within, get_or_from_slice_get, t, same)

pub live_counted : (is : List Instance) (id p : ℕ) → map id_of is ≡ range_with_len 1 (length is) → IsTrue (awaits is id p) →
    live_ones (after_share id p is) ≡ map (counted_at id p) (live_ones is)
live_counted is id p e t = live_share id p is (awaited_stands is id p e t)

-- a new one stands behind them
pub live_push : (is : List Instance) (i : Instance) → is_live i ≡ true → live_ones (is ++ i ∷ []) ≡ live_ones is ++ i ∷ []
unfolding live_ones
live_push is i h = filter-append is_live is (i ∷ []) ∙ ap (λ (xs : List Instance). live_ones is ++ xs) (rw h refl)

-- they are as many at most
pub live_few : (is : List Instance) → length (live_ones is) ≤ length is
unfolding live_ones
live_few is = rw (length-filter is_live is) (count_by-le-length is_live is)

-- the load of one of the parties
pub load_in_is : (is : List Instance) (p : ℕ) → 1 ≤ p → p ≤ 32 → load_in (loads_of is) p ≡ load is p
load_in_is is p h l = load_at is (p - 1) (omega arith) ∙ ap (load is) (omega arith)

-- void ones are owed nothing
pub owed_live : (p : ℕ) (is : List Instance) → owed_shares p (live_ones is) ≡ owed_shares p is
unfolding owed_shares live_ones
owed_live p is = ap (map id_of) (filter_kept is_live (lacks p) (void_waits p) is)
