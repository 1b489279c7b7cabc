-- The members of a set that has none above a number are those up to it.
use Rattle.std.proofs.Common.{◌≡◌, ◌∙◌, ap, refl, ℕ, zero, suc, ◌+◌, ◌≤◌, Bool, true, false, cond, List, [], ◌∷◌, ◌++◌, map, filter, append-nil, arith}
use Rattle.share_spec.specs.Sets.{has, members_to}
use Rattle.proto_names.proofs.Members.{members_more}
use Rattle.session_rules.specs.Courses.{sends}

absent : (b : Bool) → (b ≡ true → ⊥) → b ≡ false
absent true h = absurd (h refl)
absent false h = refl

pub members_up_to : (set n d : ℕ) → ((p : ℕ) → has set p ≡ true → p ≤ n) → members_to (n + d) set ≡ members_to n set
members_up_to set n zero h = ap (λ (z : ℕ). members_to z set) (omega arith)
members_up_to set n (suc d) h =
    let next : n + suc d ≡ n + d + 1 = omega arith in
    let none : has set (n + d + 1) ≡ false = absent (has set (n + d + 1)) (λ e. let l = h (n + d + 1) e in omega (arith, l)) in
    ap (λ (z : ℕ). members_to z set) next ∙ members_more set (n + d) ∙ ap (λ (z : Bool). members_to (n + d) set ++ cond z ((n + d + 1) ∷ []) []) none
    ∙ append-nil (members_to (n + d) set) ∙ members_up_to set n d h

-- a party is present, or isn't
pub here_on : (set p : ℕ) (ps : List ℕ) → has set p ≡ true → map sends (filter (has set) (p ∷ ps)) ≡ sends p ∷ map sends (filter (has set) ps)
here_on set p ps e = rw e refl

pub away_on : (set p : ℕ) (ps : List ℕ) → has set p ≡ false → map sends (filter (has set) (p ∷ ps)) ≡ map sends (filter (has set) ps)
away_on set p ps e = rw e refl
