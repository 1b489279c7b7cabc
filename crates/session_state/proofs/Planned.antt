-- What the rules of issue decrypt is evaluated, and a second round that they issue is behind a first one that stands.
use Rattle.std.proofs.Common.{◌≡◌, ◌∙◌, sym, ap, subst, refl, ℕ, zero, suc, ◌<◌, ◌≤◌, Bool, true, false, ◌&&◌, inl, inr, List, [], ◌∷◌, map, length, get_or, Contains, Option, Some, None, arith}
use Rattle.std.specs.Prelude.{All, Result, Ok, Err, IfOk, nat_eq, if◌then◌else◌}
use Rattle.std.proofs.lemmas.Bool.{both_ways}
use Rattle.std.proofs.lemmas.List.Elements.{All-nil, All-cons, All-get_or, Contains-push_cases}
use Rattle.param_set.specs.declared.params.Params.{Params}
use Rattle.proto_names.specs.Names.{same}
use Rattle.proto_names.specs.Instances.{is_done, fresh, given_up, after_void}
use Rattle.proto_names.specs.declared.signature.Signature.{Signature}
use Rattle.proto_names.specs.declared.signature.Signature.TheVariants.{Pk, Rlk1, Rlk2, Rot, Dec}
use Rattle.proto_names.specs.declared.sets.PartySet.{PartySet}
use Rattle.proto_names.specs.declared.instance.Instance.{Instance}
use Rattle.proto_names.specs.declared.instance.Stage.TheVariants.{Void}
use Rattle.instance_table.specs.Tables.{stands}
use Rattle.session_rules.specs.declared.state.CircuitState.{CircuitState}
use Rattle.session_rules.specs.declared.state.CircuitState.TheVariants.{Evaluated}
use Rattle.session_rules.specs.declared.moves.Move.{Move}
use Rattle.session_rules.specs.declared.moves.Move.TheVariants.{GiveUp, Issue}
use Rattle.session_rules.specs.declared.fixed.Fixed.{Fixed}
use Rattle.session_rules.specs.States.{State, seen, circuit}
use Rattle.session_rules.specs.Issues.{next_move, chosen_present, instances_after, moved, moves_in, moves, most_moves}
use Rattle.session_rules.proofs.Contained.{contains_map_from}
use Rattle.session_rules.proofs.Marks.{done_from}
use Rattle.session_rules.proofs.MoveKinds.{MoveIs, gives_up, second, other, move_is}
use Rattle.session_rules.proofs.Needs.{needed_evaluated}
use Rattle.session_rules.proofs.Weights.{moves_are_few}
use Rattle.session_rules.proofs.Planned.{moves_given}
use Rattle.session_spec.specs.Stores.{Store, polys_by}
use Rattle.session_state.specs.Issuings.{issued, polys_due, Decrypts, Follows, FirstsStand, IsPlanned}
use Rattle.session_state.specs.declared.issuing.Fresh.{Fresh}
use Rattle.session_state.specs.declared.issuing.Step.{Step}

-- a move that decrypts a circuit only if that is evaluated, and issues a second round only behind a first one that
-- stands among these
pub record IsDue (is : List Instance) (circuits : List CircuitState) (m : Move) : Type 0 where
  pub evaluated : (c : ℕ) → Decrypts m c → circuit circuits c ≡ Evaluated
  pub follows : (first : ℕ) → Follows m first → stands is first ≡ true

move_due : (is : List Instance) (f : Fixed) (s : State) (m : Move) → FirstsStand is s.instances → MoveIs f s m → IsDue is s.circuits m
unfolding chosen_present
move_due is f s m firsts (gives_up i by unused within done out e) = rw e (record { evaluated = λ c so. absurd so; follows = λ first so. absurd so })
move_due is f s m firsts (second i unused within done all needed e) =
    rw e (record {
      evaluated = λ c so. cc;
      follows = λ first so. subst (λ (n : ℕ). stands is n ≡ true) so.1 (firsts i within (done_from Rlk1 i done));
    })
move_due is f s m firsts (other σ first unused many needed e) =
    rw e (record { evaluated = λ c so. needed_evaluated f s.circuits σ c needed so; follows = λ round1 so. absurd (first so.0) })

-- a new instance is not complete, nor is one that is given up
none_fresh : (is : List Instance) (σ : Signature) (set : PartySet) (round1 group : ℕ) → is_done Rlk1 (fresh is σ set round1 group) ≡ false
unfolding is_done fresh
none_fresh is σ set round1 group = at (same σ Rlk1)
  where
    at : (b : Bool) → (b && false) ≡ false
    at true = refl
    at false = refl

done_before : (id by : ℕ) (i : Instance) → is_done Rlk1 (given_up id by i) ≡ true → given_up id by i ≡ i
unfolding is_done
done_before id by i done = at (nat_eq i.id id) done
  where
    void : (b : Bool) → (b && false) ≡ true → ⊥
    void true e = cc
    void false e = cc

    at : (b : Bool) → is_done Rlk1 (if b then record i { stage = Void by } else i) ≡ true → (if b then record i { stage = Void by } else i) ≡ i
    at true done = absurd (void (same i.signature Rlk1) done)
    at false done = refl

-- so first rounds that are complete after a move were so before
firsts_then : (is js : List Instance) (m : Move) → FirstsStand is js → FirstsStand is (instances_after js m)
unfolding instances_after after_void
firsts_then is js (GiveUp id by) firsts i within done =
    let c = contains_map_from (given_up id by) js i within in
    let same : given_up id by c.source ≡ c.source = done_before id by c.source (rw c.same done) in
    firsts i (subst (λ (z : Instance). Contains js z) (sym same ∙ c.same) c.within) done
firsts_then is js (Issue σ set round1) firsts i within done = elim (Contains-push_cases js (fresh js σ set round1 0) i within) [
  | inl old ↦ firsts i old done
  | inr new ↦ absurd (both_ways (is_done Rlk1 (fresh js σ set round1 0)) (none_fresh js σ set round1 0) (rw new done))
]

due_then : (is : List Instance) (n : ℕ) (f : Fixed) (s : State) → FirstsStand is s.instances
    → ((t : State) → FirstsStand is t.instances → All (IsDue is t.circuits) (moves_in n f t))
    → (o : Option Move) → next_move f s ≡ o → All (IsDue is s.circuits) (elim o as (λ x. List Move) [
      | None ↦ []
      | Some m ↦ m ∷ moves_in n f (moved s m)
    ])
unfolding moved
due_then is n f s firsts more None e = All-nil (IsDue is s.circuits)
due_then is n f s firsts more (Some m) e =
    All-cons (IsDue is s.circuits) m (moves_in n f (moved s m)) (move_due is f s m firsts (move_is f s m e)) (more (moved s m) (firsts_then is s.instances m firsts))

moves_due : (is : List Instance) (n : ℕ) (f : Fixed) (s : State) → FirstsStand is s.instances → All (IsDue is s.circuits) (moves_in n f s)
unfolding moves_in
moves_due is zero f s firsts = All-nil (IsDue is s.circuits)
moves_due is (suc n) f s firsts = due_then is n f s firsts (λ t h. moves_due is n f t h) (next_move f s) refl

-- ---- the moves that are planned

pub few_moves : (f : Fixed) (s : State) (ms : List Move) → ms ≡ moves f s → length ms ≤ most_moves f
few_moves f s ms e = omega (arith, ap length e, moves_are_few f s)

pub due_at : (is : List Instance) (f : Fixed) (s : State) (ms : List Move) (k : ℕ) (d : Move) → ms ≡ moves f s → FirstsStand is s.instances → k < length ms → IsDue is s.circuits (get_or ms k d)
unfolding moves
due_at is f s ms k d e firsts l =
    All-get_or (IsDue is s.circuits) ms k d l (subst (λ (xs : List Move). All (IsDue is s.circuits) xs) (sym e) (moves_due is (most_moves f) f s firsts))

-- a plan is one for all that may be given
pub planned_given : (p : Params) (f : Fixed) (present : ℕ) (is : List Instance) (given : List (List Bool)) (circuits : List CircuitState) (h : Store) (steps : List Step)
    → IsPlanned p f (seen present is [] circuits) h steps → IsPlanned p f (seen present is given circuits) h steps
planned_given p f present is given circuits h steps r = record {
  moves = r.moves ∙ sym (moves_given f present is given circuits);
  ids = r.ids;
  polys = r.polys;
  fresh = r.fresh;
}

-- ---- a plan, for the same parameters, rules, instances and circuits

pub plan_for : (p q : Params) (f g : Fixed) (present : ℕ) (is js : List Instance) (given : List (List Bool)) (cs ds : List CircuitState) (h : Store) (steps : List Step) → p ≡ q → f ≡ g → is ≡ js → cs ≡ ds
    → IsPlanned p f (seen present is [] cs) h steps → IsPlanned q g (seen present js given ds) h steps
plan_for p q f g present is js given cs ds h steps a b c d r =
    planned_given q g present js given ds h steps
    (subst (λ (z : Params). IsPlanned z g (seen present js [] ds) h steps) a
    (subst (λ (z : Fixed). IsPlanned p z (seen present js [] ds) h steps) b
    (subst (λ (z : List Instance). IsPlanned p f (seen present z [] ds) h steps) c
    (subst (λ (z : List CircuitState). IsPlanned p f (seen present is [] z) h steps) d r))))

pub ok_then : {A E : Type 0} (r : Result A E) (P Q : A → Type 0) → ((x : A) → P x → Q x) → IfOk r P → IfOk r Q
ok_then (Ok x) P Q h p = h x p
ok_then (Err e) P Q h p = p

-- what is told is taken from sums and outputs alone
polys_same : (h g : Store) (σ : Signature) (first : ℕ) → h.sums ≡ g.sums → h.outputs ≡ g.outputs → polys_by h σ first ≡ polys_by g σ first
unfolding polys_by
polys_same h g Pk first a b = refl
polys_same h g Rlk1 first a b = refl
polys_same h g Rlk2 first a b = rw a refl
polys_same h g (Rot k) first a b = refl
polys_same h g (Dec c) first a b = rw b refl

due_same : (h g : Store) (xs : List Fresh) → h.sums ≡ g.sums → h.outputs ≡ g.outputs → map (polys_due h) xs ≡ map (polys_due g) xs
due_same h g [] a b = refl
due_same h g (x ∷ xs) a b =
    ap (λ (z : List (List ℕ)). z ∷ map (polys_due h) xs) (polys_same h g x.signature x.brief.value.round1 a b)
    ∙ ap (λ (zs : List (List (List ℕ))). polys_due g x ∷ zs) (due_same h g xs a b)

pub plan_from : (p : Params) (f : Fixed) (s : State) (h g : Store) (steps : List Step) → h.sums ≡ g.sums → h.outputs ≡ g.outputs → IsPlanned p f s h steps → IsPlanned p f s g steps
plan_from p f s h g steps a b r = record { moves = r.moves; ids = r.ids; polys = r.polys ∙ due_same h g (issued steps) a b; fresh = r.fresh }
