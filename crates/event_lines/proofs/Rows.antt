-- Numbers, places and lines in a row, one at a time.
use Rattle.std.proofs.Common.{◌≡◌, ◌∙◌, ap, sym, refl, ℕ, ◌+◌, ◌<◌, List, [], ◌∷◌, ◌++◌, length, get_or, take, map, append_assoc, codes, arith}
use Rattle.std.specs.Prelude.{decimal}
use Rattle.std.specs.List.{flat_map}
use Rattle.std.proofs.lemmas.List.{take_more, append-nil, flat_map_more, map-append}
use Rattle.event_lines.specs.Lists.{after_space, following, after_comma, by_commas, or_dash}
use Rattle.event_lines.specs.Events.{place_text, event_line}
use Rattle.session_rules.specs.declared.call.Entry.{Entry}

-- ---- spaces

pub following-none : (bs : List ℕ) → bs ≡ bs ++ following []
unfolding following
following-none bs = sym (append-nil bs)

pub following_more : (bs xs : List ℕ) (i : ℕ) → i < length xs → ((bs ++ following (take i xs)) ++ 32 ∷ []) ++ decimal (get_or xs i 0) ≡ bs ++ following (take (i + 1) xs)
unfolding following
following_more bs xs i here =
    append_assoc (bs ++ flat_map after_space (take i xs)) (32 ∷ []) (decimal (get_or xs i 0))
    ∙ flat_map_more after_space bs (take i xs) (get_or xs i 0) ∙ ap (λ t. bs ++ flat_map after_space t) (sym (take_more xs i 0 here))

-- ---- commas

-- what stands between a row and one more: nothing at the start
unfoldable pub separator_after : {X : Type 0} → List X → List ℕ
separator_after [] = []
separator_after (x ∷ xs) = codes ","

pub separator-push : {X : Type 0} (xs : List X) (x : X) → codes "," ≡ separator_after (xs ++ x ∷ [])
unfolding separator_after
separator-push [] x = refl
separator-push (y ∷ ys) x = refl

-- one text more
by_commas-push : (ts : List (List ℕ)) (t : List ℕ) → by_commas ts ++ separator_after ts ++ t ≡ by_commas (ts ++ t ∷ [])
unfolding by_commas separator_after
by_commas-push [] t = sym (append-nil t)
by_commas-push (s ∷ ss) t =
    append_assoc (s ++ flat_map after_comma ss) (codes ",") t ∙ flat_map_more after_comma s ss t

separator-map : {X : Type 0} (f : X → List ℕ) (xs : List X) → separator_after xs ≡ separator_after (map f xs)
unfolding separator_after
separator-map f [] = refl
separator-map f (x ∷ xs) = refl

-- the texts of one item more
pub by_commas_more : {X : Type 0} (f : X → List ℕ) (bs : List ℕ) (xs : List X) (x : X) → (bs ++ by_commas (map f xs)) ++ separator_after xs ++ f x ≡ bs ++ by_commas (map f (xs ++ x ∷ []))
by_commas_more f bs xs x =
    let ts = map f xs in
    ap (λ z. bs ++ by_commas ts ++ z ++ f x) (separator-map f xs)
    ∙ append_assoc (bs ++ by_commas ts) (separator_after ts) (f x) ∙ append_assoc bs (by_commas ts) (separator_after ts ++ f x)
    ∙ ap (λ z. bs ++ z) (sym (append_assoc (by_commas ts) (separator_after ts) (f x)) ∙ by_commas-push ts (f x) ∙ ap by_commas (sym (map-append f xs (x ∷ []))))

pub by_commas-none : (bs : List ℕ) → bs ≡ bs ++ by_commas []
unfolding by_commas
by_commas-none bs = sym (append-nil bs)

pub separator-none : (X : Type 0) → [] ≡ separator_after {X = X} []
unfolding separator_after
separator-none X = refl

pub separator_more : {X : Type 0} (xs : List X) (i : ℕ) (d : X) → i < length xs → codes "," ≡ separator_after (take (i + 1) xs)
separator_more xs i d here = separator-push (take i xs) (get_or xs i d) ∙ ap separator_after (sym (take_more xs i d here))

-- the row of numbers, and the row of places
pub numbers_more : (bs xs : List ℕ) (i : ℕ) → i < length xs → (bs ++ by_commas (map decimal (take i xs))) ++ separator_after (take i xs) ++ decimal (get_or xs i 0) ≡ bs ++ by_commas (map decimal (take (i + 1) xs))
numbers_more bs xs i here =
    by_commas_more decimal bs (take i xs) (get_or xs i 0) ∙ ap (λ z. bs ++ by_commas (map decimal z)) (sym (take_more xs i 0 here))

pub places_more : (bs : List ℕ) (xs : List (ℕ × ℕ)) (i : ℕ) → i < length xs → (bs ++ by_commas (map place_text (take i xs))) ++ separator_after (take i xs) ++ place_text (get_or xs i (0, 0)) ≡ bs ++ by_commas (map place_text (take (i + 1) xs))
places_more bs xs i here =
    by_commas_more place_text bs (take i xs) (get_or xs i (0, 0)) ∙ ap (λ z. bs ++ by_commas (map place_text z)) (sym (take_more xs i (0, 0) here))

-- ---- none

pub dash-none : {X : Type 0} (f : X → List ℕ) (bs : List ℕ) (xs : List X) → length xs ≡ 0 → bs ++ codes "-" ≡ bs ++ or_dash (map f xs)
unfolding or_dash
dash-none f bs [] none = refl
dash-none f bs (x ∷ xs) none = absurd (omega arith)

pub dash-some : {X : Type 0} (f : X → List ℕ) (bs : List ℕ) (xs : List X) → 0 < length xs → bs ++ by_commas (map f xs) ≡ bs ++ or_dash (map f xs)
unfolding or_dash
dash-some f bs [] some = absurd (omega arith)
dash-some f bs (x ∷ xs) some = refl

-- ---- lines

pub events_more : (es : List Entry) (i : ℕ) (d : Entry) → i < length es → flat_map event_line (take i es) ++ event_line (get_or es i d) ≡ flat_map event_line (take (i + 1) es)
events_more es i d here =
    flat_map_more event_line [] (take i es) (get_or es i d) ∙ ap (flat_map event_line) (sym (take_more es i d here))

pub ruleset rows = (following-none, following_more, by_commas-none, separator-none, separator_more, numbers_more, places_more)

pub ruleset dashes = (dash-none, dash-some)

pub ruleset events = (events_more)
