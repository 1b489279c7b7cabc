-- Which scripts are taken, the text that is owed for one, and what each status says of a few bytes.
use Rattle.std.proofs.Common.{◌≡◌, ℕ, ◌-◌, ◌<◌, ◌≤◌, zero, suc, true, false, List, [], ◌∷◌, length, take, drop, codes, Option, Some, None, Result, Ok, Err, refl, sym, ap, ◌∙◌, subst, true≢false, arith, inl, inr}
use Rattle.std.specs.Prelude.{unwrap_or}
use Rattle.std.specs.Fmt.{digits}
use Rattle.std.proofs.lemmas.List.{length-drop, length-take-le}
use Rattle.edge_io.specs.Taking.{TakesMoreThan}
use Rattle.circuit_form.specs.declared.node.Node.TheVariants.{Input, Const, Mul, Rot}
use Rattle.cipher_spec.specs.Ciphers.{is_switch_free}
use Rattle.session_rules.specs.declared.line.Line.TheVariants as line
use Rattle.session_script.specs.declared.reason.Reason.TheVariants as reason
use Rattle.session_script.specs.Asked.{Asked, Named}
use Rattle.session_script.specs.Lines.{without_end, lines}
use Rattle.session_script.specs.Words.{parts_at}
use Rattle.session_script.specs.Scripts.{Refusal, script, read_from, ended}
use Rattle.run_report.specs.Refusals.{reason_text, refusal_line}
use Rattle.run_report.specs.Checking.{check_text}
use Rattle.headline.specs.History.{is_free, are_free}
use Rattle.helper_main.specs.declared.status.Status.TheVariants.{Done, Usage, Script, Read, Write, Memory}
use Rattle.helper_main.specs.declared.work.Work.{Work}
use Rattle.helper_main.specs.declared.work.Work.TheVariants.{Run, Check}
use Rattle.helper_main.specs.Numbers.{number_of}
use Rattle.helper_main.specs.Works.{takes, text_for, owed, is_done}
use Rattle.helper_main.specs.Owed.{most_bytes, words_of, usage_line, WritesPart, ReadsWhole, Serves, Declines, HasHeadline, HoldsScript, IsDoneOr}
use Rattle.run_rows.proofs.Texts.{about, three, sum, checked}

pub statuses : (number_of Done ≡ 0) × (number_of Usage ≡ 2) × (number_of Script ≡ 3) × (number_of Read ≡ 4) × (number_of Write ≡ 5) × (number_of Memory ≡ 6)
statuses = (refl, refl, refl, refl, refl, refl)

pub words_are : (words_of Run ≡ codes "run" ∷ codes "--serial" ∷ []) × (words_of Check ≡ codes "check" ∷ [])
words_are = (refl, refl)

-- ---- which scripts are taken

abbrev pub turned : Named
turned = record { name = codes "r"; nodes = Input 1 ∷ Rot 3 0 ∷ []; values = three ∷ [] }

abbrev pub squared : Named
squared = record { name = codes "s"; nodes = Input 1 ∷ Mul 0 0 ∷ []; values = three ∷ [] }

-- a product with a constant
abbrev pub scaled : Named
scaled = record { name = codes "m"; nodes = Input 1 ∷ Const three ∷ Mul 0 1 ∷ []; values = three ∷ [] }

abbrev pub with_lane : List Named → Asked
with_lane circuits = record (about circuits) { lanes = (line.Work ∷ []) ∷ [] }

pub free : (is_free sum ≡ true) × (is_free scaled ≡ true) × (is_free turned ≡ false) × (is_free squared ≡ false) × (are_free (sum ∷ scaled ∷ []) ≡ true) × (are_free (sum ∷ turned ∷ []) ≡ false) × (are_free [] ≡ true)
unfolding is_switch_free
free = (refl, refl, refl, refl, refl, refl, refl)

-- with neither; with a rotation; with a product; with a lane
pub taken : (takes (about (sum ∷ scaled ∷ [])) ≡ true) × (takes (about (sum ∷ turned ∷ [])) ≡ false) × (takes (about (squared ∷ [])) ≡ false) × (takes (with_lane (sum ∷ [])) ≡ true)
unfolding takes is_switch_free
taken = (refl, refl, refl, refl)

-- ---- what is owed

abbrev pub refusal : Result Asked Refusal
refusal = Err (record { line = 1; reason = reason.End })

-- a refused script, one that isn't taken, and one that is
pub owed_for_refused : (owed Run refusal ≡ codes "refused line 1 end\n") × (owed Check refusal ≡ codes "refused line 1 end\n")
unfolding owed refusal_line reason_text digits
owed_for_refused = (refl, refl)

pub owed_for_others : (owed Run (Ok (about (turned ∷ []))) ≡ codes "refused form\n") × (owed Check (Ok (about (turned ∷ []))) ≡ codes "refused form\n")
unfolding owed takes is_switch_free
owed_for_others = (refl, refl)

check_is_owed : owed Check (Ok (about (sum ∷ []))) ≡ check_text (about (sum ∷ []))
unfolding owed takes text_for is_switch_free
check_is_owed = refl

pub owed_for_check : owed Check (Ok (about (sum ∷ []))) ≡ codes "limit 985162418487295\ncircuit c\nnode 0 41\nnode 1 41\nnode 2 83\noutput 85\nplain 8 0 1\n"
owed_for_check = check_is_owed ∙ checked

turned_is_not_done : is_done (Ok (about (turned ∷ []))) ≡ false
unfolding is_done takes is_switch_free
turned_is_not_done = refl

sum_is_done : is_done (Ok (about (sum ∷ []))) ≡ true
unfolding is_done takes is_switch_free
sum_is_done = refl

pub done : (is_done refusal ≡ false) × (is_done (Ok (about (turned ∷ []))) ≡ false) × (is_done (Ok (about (sum ∷ []))) ≡ true) × (is_done (Ok (with_lane [])) ≡ true)
unfolding is_done takes is_switch_free
done = (refl, refl, refl, refl)

-- ---- a first part of a text, and not all of it

pub writes_part : WritesPart (Some (7 ∷ [])) (Some (7 ∷ 1 ∷ 2 ∷ [])) (1 ∷ 2 ∷ 3 ∷ [])
writes_part = (2, omega arith, refl)

pub writes_nothing : WritesPart (Some (7 ∷ [])) (Some (7 ∷ [])) (1 ∷ 2 ∷ 3 ∷ [])
writes_nothing = (0, omega arith, refl)

-- a sink that doesn't tell its bytes
pub writes_untold : WritesPart None (Some []) (1 ∷ [])
writes_untold = (0, omega arith, tt)

-- the whole text; nothing of an empty one; and bytes that aren't its first
pub writes_whole : WritesPart (Some []) (Some (1 ∷ 2 ∷ [])) (1 ∷ 2 ∷ []) → ⊥
writes_whole w =
    let lengths : 2 ≡ w.0 = ap length w.2 ∙ length-take-le w.0 (1 ∷ 2 ∷ []) (omega (arith, w.1)) in
    absurd (omega (arith, lengths, w.1))

pub writes_of_nothing : WritesPart (Some []) (Some []) [] → ⊥
writes_of_nothing w = absurd (omega (arith, w.1))

abbrev first_of : List ℕ → ℕ
first_of [] = 0
first_of (x ∷ xs) = x

first_taken : (count : ℕ) → first_of (take count (1 ∷ 2 ∷ [])) < 2
first_taken zero = omega arith
first_taken (suc n) = omega arith

pub writes_other_bytes : WritesPart (Some []) (Some (2 ∷ [])) (1 ∷ 2 ∷ []) → ⊥
writes_other_bytes w = let firsts : 2 ≡ first_of (take w.0 (1 ∷ 2 ∷ [])) = ap first_of w.2 in absurd (omega (arith, firsts, first_taken w.0))

pub writes_forgetting : WritesPart (Some (7 ∷ [])) None (1 ∷ 2 ∷ []) → ⊥
writes_forgetting w = w.2

-- ---- all was read

pub reads_whole : ReadsWhole (1 ∷ 2 ∷ []) (Some [])
reads_whole = (refl, omega arith)

pub leaves_one : (bytes : List ℕ) → ReadsWhole bytes (Some (2 ∷ [])) → ⊥
leaves_one bytes r = let lengths : 1 ≡ 0 = ap (λ (o : Option (List ℕ)). length (unwrap_or o [])) r.0 in absurd (omega (arith, lengths))

-- bytes of a length that is one more than a script may have
pub reads_too_much : (all : List ℕ) → length all ≡ 1048577 → ReadsWhole all (Some []) → ⊥
reads_too_much all count r = absurd (omega (arith, count, r.1))

-- ---- what each status says: of no bytes at all, which spell no script, for a sink that has taken the byte 7

abbrev pub end_line : List ℕ
end_line = codes "refused line 1 end\n"

-- what the empty text spells
pub spells_none : script [] ≡ refusal
unfolding script read_from lines without_end parts_at ended
spells_none = refl

pub none_owed : (work : Work) → owed work (script []) ≡ end_line
none_owed Run = ap (owed Run) spells_none ∙ owed_for_refused.0
none_owed Check = ap (owed Check) spells_none ∙ owed_for_refused.1

pub none_done : is_done (script []) ≡ false
unfolding is_done
none_done = ap is_done spells_none

-- the line of the refusal was written
pub serves_refused : (work : Work) → Serves work Script (Some []) (Some []) (Some (7 ∷ [])) (Some (7 ∷ end_line))
serves_refused work = inr ((refl, omega arith), none_done, ap (λ (xs : List ℕ). 7 ∷ xs) (sym (none_owed work)))

-- a source or a sink that doesn't tell its bytes
pub serves_untold_source : Serves Run Done None None (Some (7 ∷ [])) (Some [])
serves_untold_source = tt

pub serves_untold_sink : Serves Run Script (Some []) (Some []) None None
serves_untold_sink = inr ((refl, omega arith), none_done, tt)

-- it isn't done
pub serves_as_done : Serves Run Done (Some []) (Some []) (Some (7 ∷ [])) (Some (7 ∷ end_line)) → ⊥
serves_as_done s = true≢false (sym s.1 ∙ none_done)

-- another text was written; nothing was read
no_longer : TakesMoreThan [] (Some []) most_bytes → ⊥
no_longer t = absurd (omega (arith, t))

pub serves_another_text : Serves Run Script (Some []) (Some []) (Some (7 ∷ [])) (Some (7 ∷ [])) → ⊥
serves_another_text s = elim s [
  | inl long ↦ no_longer long.0
  | inr whole ↦
      let texts : [] ≡ owed Run (script []) = ap (drop 1) whole.2 in
      let lengths : 0 ≡ length end_line = ap length (texts ∙ none_owed Run) in
      absurd (omega (arith, lengths))
]

pub serves_unread : Serves Run Script (Some (2 ∷ [])) (Some (2 ∷ [])) (Some []) (Some end_line) → ⊥
serves_unread s = elim s [
  | inl long ↦ absurd (omega (arith, long.0))
  | inr whole ↦ leaves_one (2 ∷ []) whole.0
]

-- one more than a script may have
pub serves_long : (all : List ℕ) → length all ≡ 1048577 → Serves Run Script (Some all) (Some []) (Some (7 ∷ [])) (Some (7 ∷ codes "refused long\n"))
serves_long all count = inl (omega (arith, count), refl)

-- done: the bytes spell a script, here the sum, and its text was written
pub serves_done : (bytes : List ℕ) → script bytes ≡ Ok (about (sum ∷ [])) → length bytes ≤ 1048576
    → Serves Check Done (Some bytes) (Some []) (Some []) (Some (codes "limit 985162418487295\ncircuit c\nnode 0 41\nnode 1 41\nnode 2 83\noutput 85\nplain 8 0 1\n"))
serves_done bytes spells few = ((refl, few), ap is_done spells ∙ sum_is_done, sym (ap (owed Check) spells ∙ owed_for_check))

pub serves_done_unwritten : (bytes : List ℕ) → script bytes ≡ Ok (about (sum ∷ [])) → Serves Check Done (Some bytes) (Some []) (Some []) (Some []) → ⊥
serves_done_unwritten bytes spells s =
    let lengths : 0 ≡ 84 = ap length (s.2 ∙ ap (owed Check) spells ∙ owed_for_check) in
    absurd (omega (arith, lengths))

-- they spell one with a rotation, which isn't taken
pub serves_another_form : (bytes : List ℕ) → script bytes ≡ Ok (about (turned ∷ [])) → length bytes ≤ 1048576 → Serves Check Script (Some bytes) (Some []) (Some []) (Some (codes "refused form\n"))
serves_another_form bytes spells few = inr ((refl, few), ap is_done spells ∙ turned_is_not_done, sym (ap (owed Check) spells ∙ owed_for_others.1))

pub serves_another_form_as_done : (bytes : List ℕ) → script bytes ≡ Ok (about (turned ∷ [])) → Serves Check Done (Some bytes) (Some []) (Some []) (Some []) → ⊥
serves_another_form_as_done bytes spells s = true≢false (sym s.1 ∙ ap is_done spells ∙ turned_is_not_done)

-- a first part of the line was written, and not all of it
part_of : (text : List ℕ) → text ≡ end_line → WritesPart (Some (7 ∷ [])) (Some (7 ∷ codes "refused")) text
part_of text same = subst (λ (xs : List ℕ). WritesPart (Some (7 ∷ [])) (Some (7 ∷ codes "refused")) xs) (sym same) (7, omega arith, refl)

pub breaks : Serves Run Write (Some []) (Some []) (Some (7 ∷ [])) (Some (7 ∷ codes "refused"))
breaks = inr ((refl, omega arith), part_of (owed Run (script [])) (none_owed Run))

whole_of : (text : List ℕ) → text ≡ end_line → WritesPart (Some (7 ∷ [])) (Some (7 ∷ end_line)) text → ⊥
whole_of text same w =
    let texts : end_line ≡ take w.0 text = ap (drop 1) w.2 in
    let count : w.0 < 19 = subst (λ (xs : List ℕ). w.0 < length xs) same w.1 in
    let lengths : 19 ≡ w.0 = ap length texts ∙ length-take-le w.0 text (omega (arith, w.1)) in
    absurd (omega (arith, lengths, count))

pub breaks_nothing : Serves Run Write (Some []) (Some []) (Some (7 ∷ [])) (Some (7 ∷ end_line)) → ⊥
breaks_nothing b = elim b [
  | inl long ↦ no_longer long.0
  | inr whole ↦ whole_of (owed Run (script [])) (none_owed Run) whole.1
]

pub breaks_long : (all : List ℕ) → length all ≡ 1048577 → Serves Run Write (Some all) (Some []) (Some []) (Some (codes "refused"))
breaks_long all count = inl (omega (arith, count), (7, omega arith, refl))

-- no work ends by the status of other words
pub serves_usage : Serves Run Usage (Some []) (Some []) (Some []) (Some []) → ⊥
serves_usage s = s

-- ---- stopped: nothing was written, and some first bytes were read

pub stops : Serves Run Read (Some (1 ∷ 2 ∷ 3 ∷ [])) (Some (3 ∷ [])) (Some (7 ∷ [])) (Some (7 ∷ []))
stops = ((2, omega arith, (omega arith, refl)), refl)

pub stops_for_memory : Serves Check Memory (Some (1 ∷ [])) (Some (1 ∷ [])) None None
stops_for_memory = ((0, omega arith, (omega arith, refl)), refl)

pub stops_untold : Serves Check Memory None (Some (1 ∷ [])) None None
stops_untold = ((0, omega arith, tt), refl)

abbrev known : Option (List ℕ) → List ℕ
known o = unwrap_or o []

-- something was written; bytes are left that weren't; and more was read than a script may have
pub stops_behind_a_byte : Serves Run Read (Some []) (Some []) (Some (7 ∷ [])) (Some (7 ∷ 8 ∷ [])) → ⊥
stops_behind_a_byte s = let lengths : 2 ≡ 1 = ap (λ (o : Option (List ℕ)). length (known o)) s.1 in absurd (omega (arith, lengths))

pub stops_with_more : Serves Run Read (Some (1 ∷ [])) (Some (1 ∷ 2 ∷ [])) (Some []) (Some []) → ⊥
stops_with_more s =
    let taken = s.0 in
    let lengths : 2 ≡ 1 - taken.0 = ap (λ (o : Option (List ℕ)). length (known o)) taken.2.1 ∙ length-drop taken.0 (1 ∷ []) in
    absurd (omega (arith, lengths))

pub stops_too_late : (all : List ℕ) → length all ≡ 1048577 → Serves Run Read (Some all) (Some []) (Some []) (Some []) → ⊥
stops_too_late all count s =
    let taken = s.0 in
    let lengths : 0 ≡ length all - taken.0 = ap (λ (o : Option (List ℕ)). length (known o)) taken.2.1 ∙ length-drop taken.0 all in
    absurd (omega (arith, lengths, count, taken.1))

-- ---- other words than those of a work

pub declines : Declines Usage (Some (7 ∷ [])) (Some (7 ∷ codes "usage: helium run [--serial] [--json] | check | gen NUMBER\n"))
declines = refl

pub declines_in_part : Declines Write (Some (7 ∷ [])) (Some (7 ∷ codes "usage"))
declines_in_part = (5, omega arith, refl)

pub declines_silently : Declines Usage (Some (7 ∷ [])) (Some (7 ∷ [])) → ⊥
declines_silently d = let lengths : 1 ≡ 60 = ap length d in absurd (omega (arith, lengths))

pub declines_whole : Declines Write (Some []) (Some usage_line) → ⊥
declines_whole w =
    let lengths : 59 ≡ w.0 = ap length w.2 ∙ length-take-le w.0 usage_line (omega (arith, w.1)) in
    absurd (omega (arith, lengths, w.1))

pub declines_as_done : Declines Done (Some []) (Some []) → ⊥
declines_as_done d = d

pub declines_as_script : Declines Script (Some []) (Some []) → ⊥
declines_as_script d = d

pub declines_as_read : Declines Read (Some []) (Some []) → ⊥
declines_as_read d = d

pub declines_for_memory : Declines Memory (Some []) (Some []) → ⊥
declines_for_memory d = d

-- ---- what a run that is done promises, and when a work is done

pub headline_untold : HasHeadline None (Some []) (Some []) (Some [])
headline_untold = tt

abbrev one_if_ok : Result Asked Refusal → ℕ
one_if_ok (Ok a) = 1
one_if_ok (Err r) = 0

-- no bytes spell no script
pub headline_of_nothing : HasHeadline (Some []) (Some []) (Some []) (Some []) → ⊥
headline_of_nothing h = let there : 0 ≡ 1 = ap one_if_ok (sym spells_none ∙ h.spelled) in absurd (omega (arith, there))

pub holds_script : (bytes : List ℕ) → script bytes ≡ Ok (about (sum ∷ [])) → length bytes ≤ 1048576 → HoldsScript (Some bytes)
holds_script bytes spells few = (few, ap is_done spells ∙ sum_is_done)

pub holds_nothing : HoldsScript (Some []) → ⊥
holds_nothing h = true≢false (sym h.1 ∙ none_done)

pub holds_untold : HoldsScript None → ⊥
holds_untold h = h

pub done_or_not : IsDoneOr Done × IsDoneOr Memory
done_or_not = (inl refl, inr refl)

pub done_or_read : IsDoneOr Read → ⊥
done_or_read d = elim d [
  | inl same ↦ let numbers : 4 ≡ 0 = ap number_of same in absurd (omega (arith, numbers))
  | inr same ↦ let numbers : 4 ≡ 6 = ap number_of same in absurd (omega (arith, numbers))
]
