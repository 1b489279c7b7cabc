-- The head of a script keeps what is kept: checked numbers, and parties who rise.
use Rattle.std.proofs.Common.{◌≡◌, ℕ, ◌-◌, ◌%◌, ◌^◌, ◌<◌, Bool, true, false, ◌&&◌, ◌||◌, ◌⊎◌, inl, inr, List, [], ◌∷◌, ◌++◌, All, Option, Some, None, Result, Ok, Err, IfOk, refl, ◌∙◌, arith, nat_le, nat_lt, leb-true, ltb-true, append_assoc, drop, codes, ◌==◌, if◌then◌else◌}
use Rattle.std.proofs.lemmas.Bool.{eqb-true}
use Rattle.std.proofs.lemmas.List.{append-nil}
use Rattle.std.proofs.lemmas.List.Elements.{All-cons, All-nil}
use Rattle.std.proofs.Math.Nat.{mod-lt}
use Rattle.std.specs.List.{IsDistinct}
use Rattle.param_set.specs.declared.raw.RawParams.{RawParams}
use Rattle.param_set.specs.declared.raw.Field.{Field}
use Rattle.param_set.specs.Rules.{first_bad, root_of, root_power}
use Rattle.param_set.proofs.Judged.{passed}
use Rattle.session_script.specs.declared.reason.Reason.{Reason}
use Rattle.session_script.specs.declared.reason.Reason.TheVariants as reason
use Rattle.session_script.specs.Lines.{word_at, leads}
use Rattle.session_script.specs.Checks.{is_statement, number_at, numbers_behind}
use Rattle.session_script.specs.Asked.{Numbers, numbers_given}
use Rattle.session_script.specs.Heads.{is_version, version_statement, given_params, judged, params_statement, master_seed, seed_statement, rising, present_statement}
use Rattle.session_script.specs.Kept.{IsVersion, IsNamed, IsParty, Rising, AreChecked, IsSized}
use Rattle.session_script.proofs.Chains.{past_test, past, past_known, both, chosen}
use Rattle.session_script.proofs.KeptPlaces.{IsHead, Sound}

-- ---- numbers

root-below : (raw : RawParams) → 0 < raw.q → root_of raw < raw.q
unfolding root_of
root-below raw some = mod-lt _ some

root-is : (raw : RawParams) → root_power raw ≡ raw.q - 1 → root_of raw ^ raw.n % raw.q ≡ raw.q - 1
unfolding root_power
root-is raw e = e

given-checked : (version : ℕ) (raw : RawParams) → first_bad raw ≡ None → root_power raw ≡ raw.q - 1 → AreChecked (numbers_given version raw)
given-checked version raw e power =
    let rules = passed raw e in
    let large = rules.modulus.least in
    record {
      degree = rules.degree;
      modulus = (rules.modulus.least, rules.modulus.greatest, rules.modulus.one);
      no_small_factor = rules.modulus.no_factor;
      plain_modulus = rules.plain;
      digits = rules.digits;
      noise = (rules.err.0, rules.err.1, rules.flood);
      group = (rules.threshold.0, rules.threshold.1, rules.parties);
      root = (root-below raw (omega (arith, large)), root-is raw power);
    }

judged-sound : (version : ℕ) (raw : RawParams) (bad : Option Field) → IsVersion version → first_bad raw ≡ bad → IfOk (judged version raw bad) (IsHead version)
unfolding judged
judged-sound version raw (Some bad) v e = tt
judged-sound version raw None v e =
    chosen (IsHead version) (root_power raw == raw.q - 1) (numbers_given version raw) _ (λ power. record {
      known = v;
      balanced = refl;
      checked = given-checked version raw e (eqb-true (root_power raw) (raw.q - 1) power);
    })

-- ---- the statements

one-of-both : (a b : Bool) → (a || b) ≡ true → (a ≡ true) ⊎ (b ≡ true)
one-of-both true b e = inl refl
one-of-both false b e = inr e

version-is : (version : ℕ) → is_version version ≡ true → IsVersion version
version-is version e = elim (one-of-both (version == 1) (version == 2) e) [
  | inl first ↦ inl (eqb-true version 1 first)
  | inr second ↦ inr (eqb-true version 2 second)
]

pub version-sound : (words : List (List ℕ)) → IfOk (version_statement words) Sound
unfolding version_statement Sound
version-sound words =
    past_test Sound (is_statement (codes "helium") 2 words) reason.Word _ (λ named.
    past Sound (number_at words 1) _ (λ version read.
    past_test Sound (is_version version) reason.Version _ (λ known. version-is version known)))

pub params-sound : (version : ℕ) (words : List (List ℕ)) → IsVersion version → IfOk (params_statement version words) Sound
unfolding params_statement Sound
params-sound version words v =
    past_test Sound (is_statement (codes "params") 10 words) reason.Word _ (λ named.
    past Sound (given_params words) _ (λ raw given.
    past_known (IsHead version) Sound (judged version raw (first_bad raw)) _ (judged-sound version raw (first_bad raw) v refl) (λ numbers head. head)))

pub seed-sound : (version : ℕ) (numbers : Numbers) (words : List (List ℕ)) → IsHead version numbers → IfOk (seed_statement version numbers words) Sound
unfolding seed_statement Sound
seed-sound version numbers words head =
    past_test Sound (is_statement (codes "seed") 2 words) reason.Word _ (λ named.
    past Sound (master_seed (word_at words 1)) _ (λ master spelled. head))

-- where a choice between a result and a refusal gave a value, the test held
if_ok : (b : Bool) (r : Result (List ℕ) Reason) (why : Reason) (y : List ℕ) → (if b then r else Err why) ≡ Ok y → (b ≡ true) × (r ≡ Ok y)
if_ok true r why y e = (refl, e)
if_ok false r why y e = (cc, cc)

-- what rises is what is given, behind those before
rising-given : (numbers : Numbers) (before : List ℕ) (last : ℕ) (given out : List ℕ) → rising numbers.parties before last given ≡ Ok out → (out ≡ before ++ given) × Rising last given × All (IsParty numbers) given
unfolding rising Rising
rising-given numbers before last [] out e = (rw (append-nil before) cc, tt, All-nil (IsParty numbers))
rising-given numbers before last (p ∷ rest) out e =
    let step = if_ok (nat_lt last p && nat_le p numbers.parties) (rising numbers.parties (before ++ p ∷ []) p rest) _ out e in
    let tests = both (nat_lt last p) (nat_le p numbers.parties) step.0 in
    let above = ltb-true last p tests.0 in
    let behind = rising-given numbers (before ++ p ∷ []) p rest out step.1 in (
      behind.0 ∙ append_assoc before (p ∷ []) rest,
      (above, behind.1),
      All-cons (IsParty numbers) p rest (omega (arith, above), leb-true p numbers.parties tests.1) behind.2,
    )

-- those who are present are parties and rise
rising-present : (numbers : Numbers) (given present : List ℕ) → rising numbers.parties [] 0 given ≡ Ok present → All (IsParty numbers) present × Rising 0 present
rising-present numbers given present risen =
    let all = rising-given numbers [] 0 given present risen in
    rw all.0 (all.2, all.1)

pub present-sound : (version : ℕ) (numbers : Numbers) (master : List ℕ) (words : List (List ℕ)) → IsHead version numbers → IfOk (present_statement version numbers master words) Sound
unfolding present_statement Sound IsDistinct
present-sound version numbers master words head =
    past_test Sound (leads (codes "present") words) reason.Word _ (λ named.
    past Sound (numbers_behind [] (drop 1 words)) _ (λ given read.
    past Sound (rising numbers.parties [] 0 given) _ (λ present rise.
    let those = rising-present numbers given present rise in (
      record {
        head = head;
        parties = those.0;
        rising = those.1;
        few = omega arith;
        named = All-nil (IsNamed numbers);
        sized = All-nil IsSized;
        distinct = tt;
        counted = refl;
        few_inputs = omega arith;
        few_turns = omega arith;
        used = λ g turned. turned;
      },
      record { no_lane = refl; no_line = refl },
    ))))
