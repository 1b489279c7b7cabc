-- The moves that are left, while the rules are applied to live instances alone that stand for all.
use Rattle.std.proofs.Common.{◌≡◌, ◌∙◌, refl, sym, ap, ℕ, ◌+◌, ◌<◌, ◌≤◌, true, inl, inr, List, [], ◌∷◌, ◌++◌, length, arith}
use Rattle.std.specs.Prelude.{Some, None}
use Rattle.std.proofs.lemmas.Bool.{cases_Bool}
use Rattle.std.proofs.lemmas.List.{length-append}
use Rattle.share_spec.specs.Sets.{has}
use Rattle.proto_names.specs.Instances.{lacks, fresh}
use Rattle.proto_names.specs.declared.signature.Signature.{Signature}
use Rattle.proto_names.specs.declared.sets.PartySet.{PartySet}
use Rattle.proto_names.specs.declared.instance.Instance.{Instance}
use Rattle.participants.specs.Loads.{loads_of, raised}
use Rattle.participants.specs.Live.{is_live, live_ones}
use Rattle.participants.proofs.Parties.{has_nobody}
use Rattle.participants.proofs.Raising.{rises}
use Rattle.session_rules.specs.declared.fixed.Fixed.{Fixed}
use Rattle.session_rules.specs.declared.state.CircuitState.{CircuitState}
use Rattle.session_rules.specs.declared.moves.Move.{Move}
use Rattle.session_rules.specs.declared.moves.Move.TheVariants.{GiveUp, Issue}
use Rattle.session_rules.specs.States.{seen}
use Rattle.session_rules.specs.Issues.{next_move, moves_in, instances_after}
use Rattle.session_rules.specs.StandIns.{behind, stand_after, number_after}
use Rattle.session_rules.proofs.Stepwise.{void_length}
use Rattle.session_rules.proofs.Planned.{Planned, Planned-start, Planned-ends, Planned-next, Planned-all}
use Rattle.session_rules.proofs.Alike.{bare, bares, bares_live, bares_push, bares_given_up, alike_from, next_alike}

-- ---- one move

-- a move adds one at most
pub stand_longer : (issued : ℕ) (is : List Instance) (m : Move) → length (stand_after issued is m) ≤ length is + 1
unfolding stand_after
stand_longer issued is (GiveUp id by) = omega (arith, void_length id by is)
stand_longer issued is (Issue σ set round1) = omega (arith, length-append is (behind issued σ set round1 ∷ []))

pub number_more : (issued : ℕ) (m : Move) → number_after issued m ≤ issued + 1
unfolding number_after
number_more issued (GiveUp id by) = omega arith
number_more issued (Issue σ set round1) = omega arith

fresh_lives : (is : List Instance) (σ : Signature) (set : PartySet) (round1 : ℕ) → is_live (fresh is σ set round1 0) ≡ true
unfolding fresh
fresh_lives is σ set round1 = refl

behind_lives : (issued : ℕ) (σ : Signature) (set : PartySet) (round1 : ℕ) → is_live (behind issued σ set round1) ≡ true
unfolding behind
behind_lives issued σ set round1 = refl

same_news : (issued : ℕ) (is : List Instance) (σ : Signature) (set : PartySet) (round1 : ℕ) → issued ≡ length is → bare (fresh is σ set round1 0) ≡ bare (behind issued σ set round1)
unfolding fresh behind
same_news issued is σ set round1 n = rw n refl

-- those that stand for all do so after it
stand_same : (issued : ℕ) (now is : List Instance) (m : Move) → bares now ≡ bares is → issued ≡ length now → bares (instances_after now m) ≡ bares (stand_after issued is m)
unfolding instances_after stand_after
stand_same issued now is (GiveUp id by) e n = bares_given_up id by now is e
stand_same issued now is (Issue σ set round1) e n =
    bares_push now is (fresh now σ set round1 0) (behind issued σ set round1) e (fresh_lives now σ set round1) (behind_lives issued σ set round1) (same_news issued now σ set round1 n)

stand_number : (issued : ℕ) (now : List Instance) (m : Move) → issued ≡ length now → number_after issued m ≡ length (instances_after now m)
unfolding instances_after number_after
stand_number issued now (GiveUp id by) n = n ∙ sym (void_length id by now)
stand_number issued now (Issue σ set round1) n = omega (arith, n, length-append now (fresh now σ set round1 0 ∷ []))

-- a new one raises the loads of its parties
behind_lacks : (issued : ℕ) (σ : Signature) (set : PartySet) (round1 p : ℕ) → has set.bits p ≡ lacks p (behind issued σ set round1)
unfolding lacks behind
behind_lacks issued σ set round1 p = rw (has_nobody p) (elim (cases_Bool (has set.bits p)) [
  | inl e ↦ rw e refl
  | inr e ↦ rw e refl
])

pub loads_stand : (issued : ℕ) (is : List Instance) (loads : List ℕ) (σ : Signature) (set : PartySet) (round1 : ℕ) → loads ≡ loads_of is
    → raised set.bits loads ≡ loads_of (is ++ behind issued σ set round1 ∷ [])
loads_stand issued is loads σ set round1 same =
    ap (raised set.bits) same ∙ sym (rises is (behind issued σ set round1) set.bits (behind_lacks issued σ set round1))

-- ---- one after the other

-- after some of at most n steps on instances that stand for all: all of them then, and what was made
pub record Planning (f : Fixed) (p : ℕ) (cs : List CircuitState) (all : List Instance) (n done issued : ℕ) (is : List Instance) (made : List Move) : Type 0 where
  pub now : List Instance
  pub planned : Planned f p cs all n done now made
  pub same : bares now ≡ bares is
  pub number : issued ≡ length now

pub Planning-start : (f : Fixed) (p : ℕ) (cs : List CircuitState) (all : List Instance) (n issued : ℕ) (is : List Instance)
    → is ≡ live_ones all → issued ≡ length all → Planning f p cs all n 0 issued is []
Planning-start f p cs all n issued is live number = record {
  now = all;
  planned = Planned-start f p cs all n;
  same = sym (bares_live all) ∙ ap bares (sym live);
  number = number;
}

pub Planning-ends : (f : Fixed) (p : ℕ) (cs : List CircuitState) (all : List Instance) (n done issued : ℕ) (is : List Instance) (made : List Move)
    → Planning f p cs all n done issued is made → next_move f (seen p is [] cs) ≡ None → made ≡ moves_in n f (seen p all [] cs)
Planning-ends f p cs all n done issued is made so e =
    Planned-ends f p cs all n done so.now made so.planned (next_alike f p so.now is cs (alike_from so.now is so.same) ∙ e)

pub Planning-all : (f : Fixed) (p : ℕ) (cs : List CircuitState) (all : List Instance) (n issued : ℕ) (is : List Instance) (made : List Move)
    → Planning f p cs all n n issued is made → made ≡ moves_in n f (seen p all [] cs)
Planning-all f p cs all n issued is made so = Planned-all f p cs all n so.now made so.planned

pub Planning-next : (f : Fixed) (p : ℕ) (cs : List CircuitState) (all : List Instance) (n done issued : ℕ) (is : List Instance) (made : List Move) (m : Move)
    → Planning f p cs all n done issued is made → done < n → next_move f (seen p is [] cs) ≡ Some m
    → Planning f p cs all n (done + 1) (number_after issued m) (stand_after issued is m) (made ++ m ∷ [])
Planning-next f p cs all n done issued is made m so l e = record {
  now = instances_after so.now m;
  planned = Planned-next f p cs all n done so.now made m so.planned l (next_alike f p so.now is cs (alike_from so.now is so.same) ∙ e);
  same = stand_same issued so.now is m so.same so.number;
  number = stand_number issued so.now m so.number;
}
