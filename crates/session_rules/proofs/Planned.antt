-- The moves that are left, while the rules of issue are applied one after the other. No rule looks at inputs.
use Rattle.std.proofs.Common.{◌≡◌, All, slice_index_or, ℕ, zero, suc, ◌+◌, ◌-◌, ◌<◌, ◌≤◌, Bool, List, [], ◌∷◌, ◌++◌, length, refl, sym, ap, subst, ◌∙◌, arith}
use Rattle.std.specs.Prelude.{Option, Some, None}
use Rattle.std.proofs.lemmas.List.{append-nil, append_assoc}
use Rattle.std.proofs.lemmas.List.Elements.{All-get_or}
use Rattle.proto_names.specs.declared.instance.Instance.{Instance}
use Rattle.participants.specs.Loads.{loads_of}
use Rattle.participants.specs.Laws.{IsAtMost}
use Rattle.participants.proofs.Raising.{loads_are_few}
use Rattle.session_rules.specs.declared.fixed.Fixed.{Fixed}
use Rattle.session_rules.specs.declared.state.CircuitState.{CircuitState}
use Rattle.session_rules.specs.declared.moves.Move.{Move}
use Rattle.session_rules.specs.States.{State, seen}
use Rattle.session_rules.specs.Issues.{next_move, moved, most_moves, moves_in, moves, instances_after}
use Rattle.session_rules.proofs.Stepwise.{longer}
use Rattle.session_rules.proofs.Seen.{next_seen}

-- ---- no rule looks at inputs

moves_then : (f : Fixed) (p : ℕ) (given : List (List Bool)) (cs : List CircuitState) (n : ℕ) → ((is : List Instance) → moves_in n f (seen p is given cs) ≡ moves_in n f (seen p is [] cs)) → (is : List Instance) (o : Option Move) → (elim o as (λ x. List Move) [
  | None ↦ []
  | Some m ↦ m ∷ moves_in n f (moved (seen p is given cs) m)
]) ≡ elim o as (λ x. List Move) [
  | None ↦ []
  | Some m ↦ m ∷ moves_in n f (moved (seen p is [] cs) m)
]
unfolding moved
moves_then f p given cs n more is None = refl
moves_then f p given cs n more is (Some m) = ap (λ (z : List Move). m ∷ z) (more (instances_after is m))

moves_seen : (f : Fixed) (p : ℕ) (given : List (List Bool)) (cs : List CircuitState) (n : ℕ) (is : List Instance) → moves_in n f (seen p is given cs) ≡ moves_in n f (seen p is [] cs)
unfolding moves_in
moves_seen f p given cs zero is = refl
moves_seen f p given cs (suc n) is = rw (next_seen f p is given cs, moves_in) (moves_then f p given cs n (moves_seen f p given cs n) is (next_move f (seen p is [] cs)))

pub moves_given : (f : Fixed) (p : ℕ) (is : List Instance) (given : List (List Bool)) (cs : List CircuitState) → moves f (seen p is given cs) ≡ moves f (seen p is [] cs)
unfolding moves
moves_given f p is given cs = moves_seen f p given cs (most_moves f) is

-- ---- one after the other

-- what follows a move, if there is one
abbrev chosen : (Move → List Move) → Option Move → List Move
chosen goes None = []
chosen goes (Some m) = goes m

-- where there is no next move none is left
moves_in-ends : (n : ℕ) (f : Fixed) (s : State) → next_move f s ≡ None → moves_in n f s ≡ []
unfolding moves_in
moves_in-ends zero f s e = refl
moves_in-ends (suc n) f s e =
    let goes : Move → List Move = λ m. m ∷ moves_in n f (moved s m) in
    let P : Option Move → Type 0 = λ z. chosen goes z ≡ [] in
    subst P (sym e) refl

-- else it comes first
moves_in-goes : (n : ℕ) (f : Fixed) (s : State) (m : Move) → next_move f s ≡ Some m → moves_in (suc n) f s ≡ m ∷ moves_in n f (moved s m)
unfolding moves_in
moves_in-goes n f s m e =
    let goes : Move → List Move = λ m. m ∷ moves_in n f (moved s m) in
    let P : Option Move → Type 0 = λ z. chosen goes z ≡ goes m in
    subst P (sym e) refl

-- after some of at most n steps: what was made and what is left are the whole, and as many instances
-- were added at most
pub record Planned (f : Fixed) (p : ℕ) (cs : List CircuitState) (first : List Instance) (n done : ℕ) (is : List Instance) (made : List Move) : Type 0 where
  pub few : length is ≤ length first + done
  pub whole : made ++ moves_in (n - done) f (seen p is [] cs) ≡ moves_in n f (seen p first [] cs)

pub Planned-start : (f : Fixed) (p : ℕ) (cs : List CircuitState) (first : List Instance) (n : ℕ) → Planned f p cs first n 0 first []
Planned-start f p cs first n = record { few = omega arith; whole = ap (λ z. moves_in z f (seen p first [] cs)) (omega arith) }

pub Planned-ends : (f : Fixed) (p : ℕ) (cs : List CircuitState) (first : List Instance) (n done : ℕ) (is : List Instance) (made : List Move) → Planned f p cs first n done is made → next_move f (seen p is [] cs) ≡ None → made ≡ moves_in n f (seen p first [] cs)
Planned-ends f p cs first n done is made so e =
    sym (append-nil made) ∙ ap (λ (z : List Move). made ++ z) (sym (moves_in-ends (n - done) f (seen p is [] cs) e)) ∙ so.whole

pub Planned-all : (f : Fixed) (p : ℕ) (cs : List CircuitState) (first : List Instance) (n : ℕ) (is : List Instance) (made : List Move) → Planned f p cs first n n is made → made ≡ moves_in n f (seen p first [] cs)
unfolding moves_in
Planned-all f p cs first n is made so =
    let none : n - n ≡ 0 = omega arith in
    let w : made ++ moves_in (n - n) f (seen p is [] cs) ≡ moves_in n f (seen p first [] cs) = so.whole in
    let v : made ++ moves_in 0 f (seen p is [] cs) ≡ moves_in n f (seen p first [] cs) = rw none at w in
    sym (append-nil made) ∙ v

pub Planned-next : (f : Fixed) (p : ℕ) (cs : List CircuitState) (first : List Instance) (n done : ℕ) (is : List Instance) (made : List Move) (m : Move) → Planned f p cs first n done is made → done < n → next_move f (seen p is [] cs) ≡ Some m → Planned f p cs first n (done + 1) (instances_after is m) (made ++ m ∷ [])
unfolding moved
Planned-next f p cs first n done is made m so l e =
    let left : n - done ≡ suc (n - (done + 1)) = omega arith in
    let w : made ++ moves_in (n - done) f (seen p is [] cs) ≡ moves_in n f (seen p first [] cs) = so.whole in
    let v : made ++ moves_in (suc (n - (done + 1))) f (seen p is [] cs) ≡ moves_in n f (seen p first [] cs) = rw left at w in
    let goes = moves_in-goes (n - (done + 1)) f (seen p is [] cs) m e in
    record {
      few = omega (arith, longer is m, so.few);
      whole = append_assoc made (m ∷ []) (moves_in (n - (done + 1)) f (seen p (instances_after is m) [] cs)) ∙ ap (λ (z : List Move). made ++ z) (sym goes) ∙ v;
    }

-- ---- the loads of the instances that there are

pub loads_at_most : (is : List Instance) (loads : List ℕ) (most : ℕ) → length is ≤ most → loads ≡ loads_of is
    → (k d : ℕ) → k < length loads → IsAtMost most (slice_index_or loads k d)
loads_at_most is loads most l same k d m =
    let all : All (IsAtMost most) loads = rw same (loads_are_few is most l) in
    All-get_or (IsAtMost most) loads k d m all
