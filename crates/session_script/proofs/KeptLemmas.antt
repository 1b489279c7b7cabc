-- Each accepted script keeps what is kept at each of its places.
use Rattle.std.proofs.Common.{◌≡◌, ℕ, zero, suc, ◌+◌, ◌*◌, ◌<◌, ◌≤◌, Bool, true, false, cond, ◌&&◌, List, [], ◌∷◌, length, All, Result, Ok, Err, IfOk, refl, sym, ap, ◌∙◌, arith, nat_eq, codes}
use Rattle.std.specs.Prelude.{filter}
use Rattle.std.specs.List.{range_with_len, list_any, AllByRecursion, IsDistinct}
use Rattle.std.proofs.lemmas.Bool.{eqb-true}
use Rattle.std.proofs.lemmas.Cmp.{nat_eq_equiv}
use Rattle.std.proofs.lemmas.List.Elements.{All-cons, All-nil, recursion_from_All}
use Rattle.std.proofs.lemmas.Map.Made.{length-le_from_is_member}
use Rattle.std.proofs.lemmas.Map.Views.{any-filter_same}
use Rattle.std.proofs.lemmas.Result.{IfOk-at_ok}
use Rattle.session_script.specs.declared.reason.Reason.{Reason}
use Rattle.session_script.specs.declared.place.Draft.{Draft}
use Rattle.session_script.specs.declared.place.Place.{Place}
use Rattle.session_script.specs.declared.place.Place.TheVariants as place
use Rattle.session_script.specs.Lines.{words, leads, all_plain, is_skipped}
use Rattle.session_script.specs.Asked.{Named, Asked}
use Rattle.session_script.specs.CircuitLines.{is_used}
use Rattle.session_script.specs.Scripts.{between_circuits, statement, spoken, after_line, Refusal, asked_by, ended, past_line, read_from}
use Rattle.session_script.specs.Kept.{AreLanes, is_turned, turns, IsAccepted}
use Rattle.session_script.proofs.Chains.{either}
use Rattle.session_script.proofs.KeptPlaces.{AreUsed, IsDrafted, HasNoLane, Sound}
use Rattle.session_script.proofs.KeptHeads.{version-sound, params-sound, seed-sound, present-sound}
use Rattle.session_script.proofs.KeptCircuits.{circuit-sound, in-circuit-sound}
use Rattle.session_script.proofs.KeptLanes.{in-lane-sound, done-sound, between-lanes-sound, none-written}

-- ---- all places

between-circuits-sound : (draft : Draft) (words : List (List ℕ)) → IsDrafted draft 0 → HasNoLane draft.lanes draft.lines → IfOk (between_circuits draft words) Sound
unfolding between_circuits
between-circuits-sound draft words d none =
    either Sound (leads (codes "circuit") words) _ _ (circuit-sound draft words d none) (between-lanes-sound draft words d (none-written draft.frame draft.lanes draft.lines none))

statement-sound : (at : Place) (words : List (List ℕ)) → Sound at → IfOk (statement at words) Sound
unfolding statement Sound
statement-sound place.Start words s = version-sound words
statement-sound (place.Versioned version) words s = params-sound version words s
statement-sound (place.Measured version numbers) words s = seed-sound version numbers words s
statement-sound (place.Seeded version numbers master) words s = present-sound version numbers master words s
statement-sound (place.Circuits draft) words s = between-circuits-sound draft words s.0 s.1
statement-sound (place.InCircuit draft begun) words s = in-circuit-sound draft begun words s.0 s.1
statement-sound (place.Lanes draft) words s = between-lanes-sound draft words s.0 s.1
statement-sound (place.InLane draft lane) words s = in-lane-sound draft lane words s.0 s.1
statement-sound (place.Closing draft) words s = done-sound draft words s.0 s.1
statement-sound (place.Finished draft) words s = tt

line-sound : (at : Place) (line : List ℕ) → Sound at → IfOk (after_line at line) Sound
unfolding after_line spoken
line-sound at line s = either Sound (all_plain line) _ _ (either Sound (is_skipped (words line)) _ _ s (statement-sound at (words line) s)) tt

-- ---- few rotations

-- numbers that rise differ
above : (test : ℕ → Bool) (x a n : ℕ) → x < a → All (λ y. nat_eq x y ≡ false) (filter test (range_with_len a n))
above test x a zero l = All-nil (λ y. nat_eq x y ≡ false)
above test x a (suc n) l = at (test a) (grind (arith, l)) (above test x (a + 1) n (omega (arith, l)))
  where
    rest : List ℕ
    rest = filter test (range_with_len (a + 1) n)

    at : (b : Bool) → nat_eq x a ≡ false → All (λ y. nat_eq x y ≡ false) rest → All (λ y. nat_eq x y ≡ false) (cond b (a ∷ rest) rest)
    at true e all = All-cons (λ y. nat_eq x y ≡ false) a rest e all
    at false e all = all

differ : (test : ℕ → Bool) (a n : ℕ) → IsDistinct nat_eq (filter test (range_with_len a n))
unfolding IsDistinct
differ test a zero = tt
differ test a (suc n) = at (test a) (recursion_from_All (λ y. nat_eq a y ≡ false) rest (above test a (a + 1) n (omega arith))) (differ test (a + 1) n)
  where
    rest : List ℕ
    rest = filter test (range_with_len (a + 1) n)

    at : (b : Bool) → AllByRecursion (λ y. nat_eq a y ≡ false) rest → IsDistinct nat_eq rest → IsDistinct nat_eq (cond b (a ∷ rest) rest)
    at true e all = (e, all)
    at false e all = all

-- what passes is in the list of those that pass, and nothing else
pub passes : (test : ℕ → Bool) (q : ℕ) (xs : List ℕ) → list_any (nat_eq q) (filter test xs) ≡ true → test q ≡ true
passes test q xs e = at (test q) (list_any (nat_eq q) xs) (sym (any-filter_same (nat_eq q) test (test q) (λ k same. ap test (sym (eqb-true q k same))) xs) ∙ e)
  where
    at : (a b : Bool) → (a && b) ≡ true → a ≡ true
    at true b h = refl
    at false b h = h

-- whichever side is asked
used_is : (turns : List ℕ) (q : ℕ) → is_used turns q ≡ list_any (nat_eq q) turns
used_is [] q = refl
used_is (g ∷ rest) q = rw (nat_eq_equiv.symm g q, used_is rest q) refl

few-used : (n : ℕ) (circuits : List Named) (used : List ℕ) → AreUsed used (is_turned circuits) → length (turns n circuits) ≤ length used
few-used n circuits used all =
    length-le_from_is_member nat_eq_equiv (turns n circuits) used (differ (is_turned circuits) 0 (2 * n))
    (λ q e. sym (used_is used q) ∙ all q (passes (is_turned circuits) q (range_with_len 0 (2 * n)) e))

-- ---- the script

whole-accepted : (draft : Draft) → IsDrafted draft 0 → AreLanes draft.frame draft.lanes → IsAccepted (asked_by draft)
whole-accepted draft d lanes = record {
  version = d.head.known;
  balanced = d.head.balanced;
  numbers = d.head.checked;
  present = record { parties = d.parties; rising = d.rising };
  few = d.few;
  named = d.named;
  sized = d.sized;
  distinct = d.distinct;
  few_inputs = omega (arith, d.counted, d.few_inputs);
  few_turns = omega (arith, few-used draft.frame.n draft.circuits draft.turns d.used, d.few_turns);
  lanes = lanes;
}

ended-accepted : (at : Place) (n : ℕ) → Sound at → IfOk (ended at n) IsAccepted
unfolding ended Sound
ended-accepted place.Start n s = tt
ended-accepted (place.Versioned version) n s = tt
ended-accepted (place.Measured version numbers) n s = tt
ended-accepted (place.Seeded version numbers master) n s = tt
ended-accepted (place.Circuits draft) n s = tt
ended-accepted (place.InCircuit draft begun) n s = tt
ended-accepted (place.Lanes draft) n s = tt
ended-accepted (place.InLane draft lane) n s = tt
ended-accepted (place.Closing draft) n s = tt
ended-accepted (place.Finished draft) n s = whole-accepted draft s.0 s.1

line-past : (n : ℕ) (step : Result Place Reason) (rest : Place → Result Asked Refusal) → IfOk step Sound → ((next : Place) → Sound next → IfOk (rest next) IsAccepted) → IfOk (past_line n step rest) IsAccepted
line-past n (Ok next) rest sound k = k next sound
line-past n (Err r) rest sound k = tt

read-accepted : (at : Place) (n : ℕ) (ls : List (List ℕ)) → Sound at → IfOk (read_from at n ls) IsAccepted
unfolding read_from
read-accepted at n [] s = ended-accepted at n s
read-accepted at n (line ∷ rest) s = line-past n (after_line at line) (λ next. read_from next (n + 1) rest) (line-sound at line s) (λ next sound. read-accepted next (n + 1) rest sound)

at-start : Sound place.Start
unfolding Sound
at-start = tt

-- the script that these lines spell
pub accepted : (ls : List (List ℕ)) (asked : Asked) → read_from place.Start 1 ls ≡ Ok asked → IsAccepted asked
accepted ls asked e = IfOk-at_ok IsAccepted e (read-accepted place.Start 1 ls at-start)
