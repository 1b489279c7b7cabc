-- First rounds that stand: those that a plan gives up, and those behind which it issues a second round.
use Rattle.std.proofs.Common.{◌≡◌, ◌∙◌, sym, ap, subst, refl, ℕ, zero, suc, Bool, true, false, ◌||◌, List, [], ◌∷◌, map, Contains, Option, Some, None}
use Rattle.std.specs.Prelude.{nat_eq, if◌then◌else◌}
use Rattle.std.proofs.lemmas.Bool.{eqb-true}
use Rattle.proto_names.specs.Instances.{lacks, with_share, counted_at, after_share}
use Rattle.proto_names.specs.declared.signature.Signature.TheVariants.{Rlk1}
use Rattle.proto_names.specs.declared.instance.Instance.{Instance}
use Rattle.proto_names.specs.declared.instance.Stage.TheVariants.{Void}
use Rattle.instance_table.specs.Tables.{stands}
use Rattle.session_rules.specs.declared.fixed.Fixed.{Fixed}
use Rattle.session_rules.specs.declared.moves.Move.{Move}
use Rattle.session_rules.specs.States.{State}
use Rattle.session_rules.specs.Issues.{next_move, chosen_present, moved, moves_in, moves, most_moves}
use Rattle.session_rules.specs.Facts.{IsLive, Numbered, Kept}
use Rattle.session_rules.proofs.Contained.{contains_map_from}
use Rattle.session_rules.proofs.Keeps.{move_next}
use Rattle.session_rules.proofs.Marks.{done_is, complete_lives, opened_lives, one_number, instance_within, found}
use Rattle.session_rules.proofs.MoveKinds.{MoveIs, gives_up, second, other, move_is}
use Rattle.session_state.proofs.Briefs.{stands_if}
use Rattle.session_state.specs.Issuings.{MayMove, CanMove, FirstsStand}
use Rattle.session_state.specs.Losings.{has_number, without}
use Rattle.session_state.specs.Wanted.{IsWanted}

pub live_stands : (is : List Instance) (i : Instance) → Numbered is → Contains is i → IsLive i → stands is i.id ≡ true
live_stands is i numbered within live = stands_if is i.id i (found is i numbered within) live

-- ---- what a plan gives up

may_move : (f : Fixed) (s : State) (m : Move) → Kept f s → MoveIs f s m → MayMove s.instances m
unfolding chosen_present
may_move f s m k (gives_up i by unused within done out e) = rw e (live_stands s.instances i k.numbered within (complete_lives i done.complete))
may_move f s m k (second i unused within done all needed e) = rw e tt
may_move f s m k (other σ first unused many needed e) = rw e tt

can_then : (n : ℕ) (f : Fixed) (s : State) → Kept f s → ((t : State) → Kept f t → CanMove t.instances (moves_in n f t))
    → (o : Option Move) → next_move f s ≡ o → CanMove s.instances (elim o as (λ x. List Move) [
      | None ↦ []
      | Some m ↦ m ∷ moves_in n f (moved s m)
    ])
unfolding moved CanMove
can_then n f s k more None e = tt
can_then n f s k more (Some m) e = (may_move f s m k (move_is f s m e), more (moved s m) (move_next f s m k e).0)

can_moves : (n : ℕ) (f : Fixed) (s : State) → Kept f s → CanMove s.instances (moves_in n f s)
unfolding moves_in CanMove
can_moves zero f s k = tt
can_moves (suc n) f s k = can_then n f s k (λ t kept. can_moves n f t kept) (next_move f s) refl

pub can_move : (f : Fixed) (s : State) (ms : List Move) → Kept f s → ms ≡ moves f s → CanMove s.instances ms
unfolding moves
can_move f s ms k e = subst (λ (xs : List Move). CanMove s.instances xs) (sym e) (can_moves (most_moves f) f s k)

-- ---- behind what it issues a second round

pub firsts_stand : (is : List Instance) → Numbered is → FirstsStand is is
firsts_stand is numbered i within done = live_stands is i numbered within (complete_lives i (done_is Rlk1 i done).complete)

-- once a share is counted
same_id : (id p : ℕ) (i : Instance) → (counted_at id p i).id ≡ i.id
unfolding with_share
same_id id p i = at (nat_eq i.id id)
  where
    at : (b : Bool) → (if b then with_share p i else i).id ≡ i.id
    at true = refl
    at false = refl

module _ (f : Fixed) (s : State) (id p rows : ℕ) (i : Instance) (k : Kept f s) (want : IsWanted f s id p rows i) where
  counted_lives : (x : Instance) → Contains s.instances x → IsLive (counted_at id p x) → IsLive x
  counted_lives x within lives = at (nat_eq x.id id) refl lives
    where
      at : (b : Bool) → nat_eq x.id id ≡ b → IsLive (if b then with_share p x else x) → IsLive x
      at true h lives =
          let there = instance_within s.instances id i want.issued in
          let same : x ≡ i = one_number s.instances x i k.numbered within there (eqb-true x.id id h ∙ sym want.number) in
          opened_lives x (ap (λ (z : Instance). z.stage) same ∙ want.opened)
      at false h lives = lives

  pub firsts_counted : FirstsStand s.instances (after_share id p s.instances)
  unfolding after_share
  firsts_counted j within done =
      let c = contains_map_from (counted_at id p) s.instances j within in
      let lives : IsLive (counted_at id p c.source) = rw c.same (complete_lives j (done_is Rlk1 j done).complete) in
      subst (λ (n : ℕ). stands s.instances n ≡ true) (sym (same_id id p c.source) ∙ ap (λ (z : Instance). z.id) c.same)
      (live_stands s.instances c.source k.numbered c.within (counted_lives c.source c.within lives))

-- once a party is lost
pub without_live : (p : ℕ) (first : Option ℕ) (x : Instance) → IsLive (without p first x) → without p first x ≡ x
without_live p first x lives = at (lacks p x || has_number first x) lives
  where
    at : (b : Bool) → IsLive (if b then record x { stage = Void p } else x) → (if b then record x { stage = Void p } else x) ≡ x
    at true lives = cc
    at false lives = refl

pub firsts_without : (is : List Instance) (p : ℕ) (first : Option ℕ) → Numbered is → FirstsStand is (map (without p first) is)
firsts_without is p first numbered j within done =
    let c = contains_map_from (without p first) is j within in
    let lives : IsLive j = complete_lives j (done_is Rlk1 j done).complete in
    let same : c.source ≡ j = sym (without_live p first c.source (rw c.same lives)) ∙ c.same in
    live_stands is j numbered (subst (λ (z : Instance). Contains is z) same c.within) lives
