-- The members of a set that aren't in another, one party at a time.
use Rattle.std.proofs.Common.{◌≡◌, ◌∙◌, ap, sym, refl, ℕ, zero, suc, ◌+◌, List, [], ◌∷◌, ◌++◌, filter, cond, true, false, arith, codes}
use Rattle.std.specs.Prelude.{decimal, not, ◌&&◌}
use Rattle.std.specs.List.{range_with_len}
use Rattle.std.proofs.Math.Bool.{and-true}
use Rattle.std.proofs.lemmas.Nat.{pow_pos}
use Rattle.std.proofs.lemmas.List.{append-nil}
use Rattle.std.proofs.lemmas.List.Elements.{filter-append, filter_agree}
use Rattle.share_spec.specs.Sets.{has, members, members_to}
use Rattle.proto_names.specs.Groups.{is_outside}
use Rattle.proto_names.proofs.Members.{has_above}
use Rattle.event_lines.specs.Names.{parties_text, set_text, outside_to, outside_text}
use Rattle.event_lines.proofs.Rows.{separator_after, separator-push, separator-none, by_commas_more, by_commas-none}

range_more : (n a : ℕ) → range_with_len a (suc n) ≡ range_with_len a n ++ (a + n) ∷ []
range_more zero a = ap (λ (z : ℕ). z ∷ []) (omega arith)
range_more (suc n) a = ap (λ (zs : List ℕ). a ∷ zs) (range_more n (a + 1) ∙ ap (λ (z : ℕ). range_with_len (a + 1) n ++ z ∷ []) (omega arith))

-- no party
pub parties-none : (bs : List ℕ) (set other : ℕ) → bs ≡ bs ++ parties_text (outside_to 0 set other)
unfolding outside_to
parties-none bs set other = by_commas-none bs

pub separator-start : (set other : ℕ) → [] ≡ separator_after (outside_to 0 set other)
unfolding outside_to
separator-start set other = separator-none ℕ

-- all 32 parties
pub parties_all : (bs : List ℕ) (set other n : ℕ) → n ≡ 32 → bs ++ parties_text (outside_to n set other) ≡ bs ++ outside_text set other
unfolding outside_text
parties_all bs set other n e = ap (λ (z : ℕ). bs ++ parties_text (outside_to z set other)) e

-- one more party
outside_more : (set other n : ℕ) → outside_to (n + 1) set other ≡ outside_to n set other ++ cond (is_outside set other (n + 1)) ((n + 1) ∷ []) []
unfolding outside_to
outside_more set other n =
    (let e : n + 1 ≡ suc n = omega arith in ap (λ (z : ℕ). filter (is_outside set other) (range_with_len 1 z)) e)
    ∙ ap (filter (is_outside set other)) (range_more n 1)
    ∙ filter-append (is_outside set other) (range_with_len 1 n) ((1 + n) ∷ [])
    ∙ ap (λ (z : ℕ). filter (is_outside set other) (range_with_len 1 n) ++ cond (is_outside set other z) (z ∷ []) []) (omega arith)

outside_new : (set other n : ℕ) → true ≡ is_outside set other (n + 1) → outside_to (n + 1) set other ≡ outside_to n set other ++ (n + 1) ∷ []
outside_new set other n h = outside_more set other n ∙ rw (← h) refl

-- it is printed
pub party_more : (bs : List ℕ) (set other n : ℕ) → true ≡ is_outside set other (n + 1) → (bs ++ parties_text (outside_to n set other)) ++ separator_after (outside_to n set other) ++ decimal (n + 1) ≡ bs ++ parties_text (outside_to (n + 1) set other)
party_more bs set other n h =
    by_commas_more decimal bs (outside_to n set other) (n + 1) ∙ ap (λ z. bs ++ parties_text z) (sym (outside_new set other n h))

pub separator_party : (set other n : ℕ) → true ≡ is_outside set other (n + 1) → codes "," ≡ separator_after (outside_to (n + 1) set other)
separator_party set other n h = separator-push (outside_to n set other) (n + 1) ∙ ap separator_after (sym (outside_new set other n h))

-- it is left out
pub party_left : (set other n : ℕ) → false ≡ is_outside set other (n + 1) → outside_to n set other ≡ outside_to (n + 1) set other
party_left set other n h = sym (outside_more set other n ∙ rw (← h) (append-nil (outside_to n set other)))

-- ---- no party is in the set without bits

has-none : (p : ℕ) → has 0 p ≡ false
unfolding has
has-none zero = refl
has-none (suc n) =
    let e : suc n ≡ n + 1 = omega arith in
    rw e (has_above 0 n (pow_pos n))

outside_all : (set p : ℕ) → is_outside set 0 p ≡ has set p
unfolding is_outside
outside_all set p = ap (λ b. has set p && not b) (has-none p) ∙ and-true (has set p)

pub outside_of_none : (set : ℕ) → outside_text set 0 ≡ set_text set
unfolding outside_text outside_to set_text members members_to
outside_of_none set = ap parties_text (filter_agree (is_outside set 0) (has set) (outside_all set) (range_with_len 1 32))

pub ruleset parties = (parties-none, separator-start, parties_all, party_more, separator_party, party_left)
