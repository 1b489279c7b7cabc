-- The entry of a signature counts one more, or a new entry counts the first.
use Rattle.std.proofs.Common.{◌≡◌, ℕ, zero, suc, ◌+◌, ◌<◌, ◌≤◌, List, [], ◌∷◌, ◌++◌, length, get_or, set, sym, ◌∙◌, refl, arith}
use Rattle.std.specs.Prelude.{true, false, cond, if◌then◌else◌, Some, None}
use Rattle.std.specs.List.{position, position_or_len}
use Rattle.std.proofs.lemmas.List.Quantifiers.{position-Some}
use Rattle.std.proofs.lemmas.List.Sums.{fails_before_first}
use Rattle.std.proofs.lemmas.Grind.{common_steps}
use Rattle.std.proofs.lemmas.Bool.Decides.{nat_tests}
use Rattle.proto_names.specs.Names.{same}
use Rattle.proto_names.specs.declared.signature.Signature.{Signature}
use Rattle.instance_table.specs.declared.attempts.Attempt.{Attempt}
use Rattle.instance_table.specs.Attempts.{counts, attempts_in}

-- signatures that are the same can stand for each other
same_left : (a b c : Signature) → same a b ≡ true → same a c ≡ same b c
unfolding same
same_left a b c h = grind (arith, nat_tests, h)

same_right : (a b c : Signature) → same b c ≡ true → same a b ≡ same a c
unfolding same
same_right a b c h = grind (arith, nat_tests, h)

abbrev entry : Signature → ℕ → Attempt
entry σ n = record { signature = σ; count = n }

found : (σ : Signature) (entries : List Attempt) (k : ℕ) (d : Attempt) → k < length entries → counts σ (get_or entries k d) ≡ true →
    ((j : ℕ) → j < k → counts σ (get_or entries j d) ≡ false) → attempts_in entries σ ≡ (get_or entries k d).count
unfolding attempts_in
found σ [] k d l h f = elim l [ ]
found σ (a ∷ rest) zero d l h f = rw h refl
found σ (a ∷ rest) (suc k) d l h f =
    let here : counts σ a ≡ false = f 0 (omega arith) in
    rw here (found σ rest k d (omega arith) h (λ j m. f (suc j) (omega arith)))

written : (σ τ : Signature) (n : ℕ) (entries : List Attempt) (k : ℕ) (d : Attempt) → k < length entries → counts σ (get_or entries k d) ≡ true →
    ((j : ℕ) → j < k → counts σ (get_or entries j d) ≡ false) → attempts_in (set entries k (entry σ n)) τ ≡ (if same σ τ then n else attempts_in entries τ)
unfolding attempts_in
written σ τ n [] k d l h f = elim l [ ]
written σ τ n (a ∷ rest) zero d l h f = rw (same_left a.signature σ τ h) (grind arith)
written σ τ n (a ∷ rest) (suc k) d l h f =
    let here : counts σ a ≡ false = f 0 (omega arith) in
    let next = written σ τ n rest k d (omega arith) h (λ j m. f (suc j) (omega arith)) in
    let other : same σ τ ≡ true → same a.signature τ ≡ false = λ e. sym (same_right a.signature σ τ e) ∙ here in
    grind (arith, next, other)

none : (σ : Signature) (entries : List Attempt) → ((j : ℕ) (d : Attempt) → j < length entries → counts σ (get_or entries j d) ≡ false) → attempts_in entries σ ≡ 0
unfolding attempts_in
none σ [] f = refl
none σ (a ∷ rest) f =
    let here : counts σ a ≡ false = f 0 a (omega arith) in
    rw here (none σ rest (λ j d m. f (suc j) d (omega arith)))

put : (σ τ : Signature) (n : ℕ) (entries : List Attempt) → ((j : ℕ) (d : Attempt) → j < length entries → counts σ (get_or entries j d) ≡ false) →
    attempts_in (entries ++ entry σ n ∷ []) τ ≡ (if same σ τ then n else attempts_in entries τ)
unfolding attempts_in
put σ τ n [] f = refl
put σ τ n (a ∷ rest) f =
    let here : counts σ a ≡ false = f 0 a (omega arith) in
    let next = put σ τ n rest (λ j d m. f (suc j) d (omega arith)) in
    let other : same σ τ ≡ true → same a.signature τ ≡ false = λ e. sym (same_right a.signature σ τ e) ∙ here in
    grind (arith, next, other)

-- a signature counts what those that are the same do
alike : (σ τ : Signature) (entries : List Attempt) → same σ τ ≡ true → attempts_in entries σ ≡ attempts_in entries τ
unfolding attempts_in
alike σ τ [] h = refl
alike σ τ (a ∷ rest) h = rw (same_right a.signature σ τ h, alike σ τ rest h) refl

one_more : (σ τ : Signature) (entries : List Attempt) (n : ℕ) → n ≡ attempts_in entries σ + 1 →
    (if same σ τ then n else attempts_in entries τ) ≡ attempts_in entries τ + cond (same σ τ) 1 0
one_more σ τ entries n e = let a = alike σ τ entries in grind (arith, a)

pub found_count : (σ : Signature) (entries : List Attempt) (k : ℕ) (d : Attempt) → position (counts σ) entries ≡ Some k → attempts_in entries σ ≡ (get_or entries k d).count
found_count σ entries k d e =
    let at = position-Some (counts σ) entries k d e in
    found σ entries k d at.0 at.1 at.2

pub found_within : (σ : Signature) (entries : List Attempt) (k : ℕ) → position (counts σ) entries ≡ Some k → k < length entries
found_within σ entries k e = grind (arith, common_steps, nat_tests, e)

pub found_more : (σ τ : Signature) (entries : List Attempt) (k n : ℕ) → position (counts σ) entries ≡ Some k → n ≡ attempts_in entries σ + 1 →
    attempts_in (set entries k (entry σ n)) τ ≡ attempts_in entries τ + cond (same σ τ) 1 0
found_more σ τ entries k n e m =
    let at = position-Some (counts σ) entries k (entry σ n) e in
    written σ τ n entries k (entry σ n) at.0 at.1 at.2 ∙ one_more σ τ entries n m

fails : (σ : Signature) (entries : List Attempt) → position (counts σ) entries ≡ None → (j : ℕ) (d : Attempt) → j < length entries → counts σ (get_or entries j d) ≡ false
fails σ entries e j d l =
    let all : length entries ≤ position_or_len (counts σ) entries = grind (arith, common_steps, nat_tests, e) in
    fails_before_first (counts σ) entries j d (omega arith)

pub none_count : (σ : Signature) (entries : List Attempt) → position (counts σ) entries ≡ None → attempts_in entries σ ≡ 0
none_count σ entries e = none σ entries (fails σ entries e)

pub none_more : (σ τ : Signature) (entries : List Attempt) → position (counts σ) entries ≡ None →
    attempts_in (entries ++ entry σ 1 ∷ []) τ ≡ attempts_in entries τ + cond (same σ τ) 1 0
none_more σ τ entries e =
    let n = none_count σ entries e in
    put σ τ 1 entries (fails σ entries e) ∙ one_more σ τ entries 1 (omega arith)
