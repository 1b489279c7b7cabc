-- A text has at most as many lines as bytes.
use Rattle.std.proofs.Common.{◌≡◌, ℕ, suc, ◌+◌, ◌-◌, ◌<◌, ◌≤◌, ◌==◌, Bool, true, false, cond, List, [], ◌∷◌, length, take, slice_index_or, refl, ap, sym, ◌∙◌, arith, if◌then◌else◌}
use Rattle.std.specs.List.{slice_split, count_by}
use Rattle.std.specs.Borrow.{Bor}
use Rattle.std.proofs.lemmas.Bool.{true≢false}
use Rattle.std.proofs.lemmas.List.{length-map, length-take}
use Rattle.std.proofs.lemmas.List.Splits.{length-slice_split, slice_split-cons_yes}
use Rattle.std.proofs.lemmas.List.Sums.{count_by-le-length, sum_by-cons}
use Rattle.session_script.specs.Words.{texts, parts_at}
use Rattle.session_script.specs.Lines.{is_empty, without_end, lines}

-- the last piece
abbrev last : List (List ℕ) → List ℕ
last pieces = slice_index_or pieces (length pieces - 1) []

-- one more in front leaves it
last-cons : (piece : List ℕ) (pieces : List (List ℕ)) (k : ℕ) → length pieces ≡ k + 1 → last (piece ∷ pieces) ≡ last pieces
last-cons piece pieces k count =
    let behind : length (piece ∷ pieces) - 1 ≡ suc k = omega (arith, count) in
    let there : length pieces - 1 ≡ k = omega (arith, count) in
    rw (behind, there) refl

-- a byte in front of a text of which this holds
in_front : (p : ℕ → Bool) (b : ℕ) (rest : List ℕ) (test : Bool) → p b ≡ test → (is_empty (last (slice_split p rest)) ≡ false → count_by p rest < length rest) → is_empty (last (slice_split p (b ∷ rest))) ≡ false → count_by p (b ∷ rest) < length (b ∷ rest)
in_front p b rest true cut behind full =
    let one_less = ap is_empty (ap last (slice_split-cons_yes p b rest cut) ∙ last-cons [] (slice_split p rest) (count_by p rest) (length-slice_split p rest)) in
    let more = behind (sym one_less ∙ full) in
    let one : ◌≡◌ {A = ℕ} (cond (p b) 1 0) 1 = rw cut refl in
    omega (arith, sum_by-cons (λ x. cond (p x) 1 0) b rest, one, more)
in_front p b rest false kept behind full =
    let none : ◌≡◌ {A = ℕ} (cond (p b) 1 0) 0 = rw kept refl in
    omega (arith, sum_by-cons (λ x. cond (p x) 1 0) b rest, none, count_by-le-length p rest)

-- where the last piece has a byte, some byte is none of those at which the text is cut
some_byte : (p : ℕ → Bool) (text : List ℕ) → is_empty (last (slice_split p text)) ≡ false → count_by p text < length text
some_byte p [] full = absurd (true≢false full)
some_byte p (b ∷ rest) full = in_front p b rest (p b) refl (some_byte p rest) full

-- one piece less, if the last is to go
fewer : (b : Bool) (pieces : List (List ℕ)) (k m : ℕ) → length pieces ≡ k + 1 → k ≤ m → (b ≡ false → k < m) → length (if b then take (length pieces - 1) pieces else pieces) ≤ m
fewer true pieces k m count few full = omega (arith, count, few, length-take (length pieces - 1) pieces)
fewer false pieces k m count few full = omega (arith, count, full refl)

pub few_lines : (text : List ℕ) → length (lines text) ≤ length text
unfolding lines without_end parts_at
few_lines text =
    fewer _ (slice_split (λ b. b == 10) text) (count_by (λ b. b == 10) text) (length text)
    (length-slice_split (λ b. b == 10) text) (count_by-le-length (λ b. b == 10) text) (some_byte (λ b. b == 10) text)

-- of slices whose texts are the lines
pub few_slices : (text : List ℕ) (slices : List (Bor (List ℕ))) → texts slices ≡ lines text → length slices ≤ length text
few_slices text slices same =
    let count = sym (length-map slices (λ slice. slice.now)) ∙ ap length same in
    omega (arith, count, few_lines text)
