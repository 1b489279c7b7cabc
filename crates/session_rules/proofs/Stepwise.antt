-- What issuing keeps, one move after the other; and what it leaves as it was.
use Rattle.std.proofs.Common.{◌≡◌, refl, ℕ, zero, suc, ◌+◌, ◌≤◌, Bool, true, false, List, [], ◌∷◌, length, Option, Some, None, arith}
use Rattle.std.specs.Prelude.{if◌then◌else◌}
use Rattle.std.proofs.lemmas.List.{length-map, length-append}
use Rattle.proto_names.specs.Instances.{fresh, given_up, after_void}
use Rattle.proto_names.specs.declared.instance.Instance.{Instance}
use Rattle.session_rules.specs.declared.deed.Deed.{Deed}
use Rattle.session_rules.specs.declared.state.CircuitState.{CircuitState}
use Rattle.session_rules.specs.declared.moves.Move.{Move}
use Rattle.session_rules.specs.declared.moves.Move.TheVariants.{GiveUp, Issue}
use Rattle.session_rules.specs.declared.fixed.Fixed.{Fixed}
use Rattle.session_rules.specs.States.{State, seen}
use Rattle.session_rules.specs.Deeds.{changed, leads_on, done}
use Rattle.session_rules.specs.Issues.{next_move, instances_after, moved, issued_in, issue, most_moves}

-- ---- what each move keeps

keeps_then : (f : Fixed) (P : State → Type 0) → ((t : State) (m : Move) → P t → next_move f t ≡ Some m → P (moved t m)) → (n : ℕ) → ((t : State) → P t → P (issued_in n f t))
    → (s : State) → P s → (o : Option Move) → next_move f s ≡ o → P (elim o [
      | None ↦ s
      | Some m ↦ issued_in n f (moved s m)
    ])
keeps_then f P one n more s h None e = h
keeps_then f P one n more s h (Some m) e = more (moved s m) (one s m h e)

keeps_in : (f : Fixed) (P : State → Type 0) → ((t : State) (m : Move) → P t → next_move f t ≡ Some m → P (moved t m)) → (n : ℕ) (s : State) → P s → P (issued_in n f s)
unfolding issued_in
keeps_in f P one zero s h = h
keeps_in f P one (suc n) s h = keeps_then f P one n (keeps_in f P one n) s h (next_move f s) refl

pub issue_keeps : (f : Fixed) (P : State → Type 0) → ((t : State) (m : Move) → P t → next_move f t ≡ Some m → P (moved t m)) → (s : State) → P s → P (issue f s)
unfolding issue
issue_keeps f P one s h = keeps_in f P one (most_moves f) s h

-- ---- only instances change

-- two states that differ in instances alone
pub record IsBeside (s t : State) : Type 0 where
  pub present : t.present ≡ s.present
  pub given : t.given ≡ s.given
  pub circuits : t.circuits ≡ s.circuits

pub issue_beside : (f : Fixed) (s : State) → IsBeside s (issue f s)
unfolding moved
issue_beside f s = issue_keeps f (IsBeside s) (λ t m h e. record { present = h.present; given = h.given; circuits = h.circuits }) s (record { present = refl; given = refl; circuits = refl })

-- such a state is the other with its instances
pub beside_is : (s t : State) → IsBeside s t → t ≡ record s { instances = t.instances }
beside_is s t b = cc_state t.present t.given t.circuits b.present b.given b.circuits
  where
    cc_state : (present : ℕ) (given : List (List Bool)) (circuits : List CircuitState) → present ≡ s.present → given ≡ s.given → circuits ≡ s.circuits
        → seen present t.instances given circuits ≡ seen s.present t.instances s.given s.circuits
    cc_state present given circuits a b c = rw (a, b, c) refl

-- ---- how many there are

pub void_length : (id by : ℕ) (is : List Instance) → length (after_void id by is) ≡ length is
unfolding after_void
void_length id by is = length-map is (given_up id by)

-- a move adds one at most
pub longer : (is : List Instance) (m : Move) → length (instances_after is m) ≤ length is + 1
unfolding instances_after
longer is (GiveUp id by) = omega (arith, void_length id by is)
longer is (Issue σ set round1) = omega (arith, length-append is (fresh is σ set round1 0 ∷ []))

grown_then : (f : Fixed) (n : ℕ) → ((t : State) → length (issued_in n f t).instances ≤ length t.instances + n) → (s : State) → (o : Option Move) → length (elim o as (λ x. State) [
  | None ↦ s
  | Some m ↦ issued_in n f (moved s m)
]).instances ≤ length s.instances + suc n
unfolding moved
grown_then f n more s None = omega arith
grown_then f n more s (Some m) = let a = more (moved s m) in let b = longer s.instances m in omega arith

grown_in : (f : Fixed) (n : ℕ) (s : State) → length (issued_in n f s).instances ≤ length s.instances + n
unfolding issued_in
grown_in f zero s = omega arith
grown_in f (suc n) s = grown_then f n (grown_in f n) s (next_move f s)

pub issue_few : (f : Fixed) (s : State) → length (issue f s).instances ≤ length s.instances + most_moves f
unfolding issue
issue_few f s = grown_in f (most_moves f) s

-- ---- any deed

pub done_keeps : (f : Fixed) (P : State → Type 0) → ((t : State) (m : Move) → P t → next_move f t ≡ Some m → P (moved t m)) → (d : Deed) (s : State) → P (changed d s) → P (done f d s)
unfolding done
done_keeps f P one d s h = at (leads_on d)
  where
    at : (b : Bool) → P (if b then issue f (changed d s) else changed d s)
    at true = issue_keeps f P one (changed d s) h
    at false = h

pub done_beside : (f : Fixed) (d : Deed) (s : State) → IsBeside (changed d s) (done f d s)
unfolding moved
done_beside f d s = done_keeps f (IsBeside (changed d s)) (λ t m h e. record { present = h.present; given = h.given; circuits = h.circuits }) d s (record { present = refl; given = refl; circuits = refl })
