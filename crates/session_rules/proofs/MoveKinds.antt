-- What each move of the rules of issue is, and when it is made.
use Rattle.std.proofs.Common.{◌≡◌, ◌≢◌, sym, subst, refl, ℕ, ◌≤◌, Bool, true, false, not, cond, ◌⊎◌, inl, inr, List, length, find, Contains, Option, Some, None}
use Rattle.std.specs.Prelude.{if◌then◌else◌, nat_le}
use Rattle.std.specs.List.{range_with_len}
use Rattle.std.specs.Option.{option_map, option_or, option_and_then}
use Rattle.std.proofs.lemmas.Bool.{and_parts, leb-true, both_ways, not-true}
use Rattle.share_spec.specs.Sets.{count}
use Rattle.proto_names.specs.Names.{same}
use Rattle.proto_names.specs.Instances.{is_done}
use Rattle.proto_names.specs.Groups.{is_outside, first_outside}
use Rattle.proto_names.specs.declared.signature.Signature.{Signature}
use Rattle.proto_names.specs.declared.signature.Signature.TheVariants.{Rlk1, Rlk2, Dec}
use Rattle.proto_names.specs.declared.instance.Instance.{Instance}
use Rattle.session_rules.specs.declared.state.CircuitState.{CircuitState}
use Rattle.session_rules.specs.declared.state.CircuitState.TheVariants.{Refused, Idle, Taken, Evaluated, Answered}
use Rattle.session_rules.specs.declared.moves.Move.{Move}
use Rattle.session_rules.specs.declared.moves.Move.TheVariants.{GiveUp, Issue}
use Rattle.session_rules.specs.declared.fixed.Fixed.{Fixed}
use Rattle.session_rules.specs.States.{State, circuit, is_evaluated, has_live, has_done}
use Rattle.session_rules.specs.Issues.{keys, enough, condition, may_issue, may_decrypt, next_decryption, next_signature, outdated, rule_1, second_round, chosen_present, issued_as, rule_2, next_move}
use Rattle.session_rules.proofs.Contained.{find_some}
use Rattle.session_rules.proofs.Marks.{same_is, same_self, IsDone, done_is}

-- ---- options

or_some : {A : Type 0} (o p : Option A) (x : A) → option_or o p ≡ Some x → (o ≡ Some x) ⊎ ((o ≡ None) × (p ≡ Some x))
or_some None p x e = inr (refl, e)
or_some (Some y) p x e = inl e

record Through {A B : Type 0} (g : A → Option B) (o : Option A) (y : B) : Type 0 where
  from : A
  was : o ≡ Some from
  gives : g from ≡ Some y

and_then_some : {A B : Type 0} (g : A → Option B) (o : Option A) (y : B) → option_and_then g o ≡ Some y → Through g o y
and_then_some g None y e = cc
and_then_some g (Some x) y e = record { from = x; was = refl; gives = e }

record Image {A B : Type 0} (g : A → B) (o : Option A) (y : B) : Type 0 where
  from : A
  was : o ≡ Some from
  gives : g from ≡ y

map_some : {A B : Type 0} (g : A → B) (o : Option A) (y : B) → option_map g o ≡ Some y → Image g o y
map_some g None y e = cc
map_some g (Some x) y e = record { from = x; was = refl; gives = cc }

pub map_none : {A B : Type 0} (g : A → B) (o : Option A) → option_map g o ≡ None → o ≡ None
map_none g None e = refl
map_none g (Some x) e = cc

unless_some : {A : Type 0} (b : Bool) (o : Option A) (x : A) → (if b then None else o) ≡ Some x → (b ≡ false) × (o ≡ Some x)
unless_some true o x e = cc
unless_some false o x e = (refl, e)

-- ---- what is needed

-- a key, or the decryption of a circuit that is evaluated
pub data IsNeeded (f : Fixed) (circuits : List CircuitState) (σ : Signature) : Type 0 where
  key : Contains (keys f) σ → IsNeeded f circuits σ
  decryption : (c : ℕ) → σ ≡ Dec c → Contains (range_with_len 0 (length circuits)) c → circuit circuits c ≡ Evaluated → IsNeeded f circuits σ

evaluated_is : (now : CircuitState) → is_evaluated now ≡ true → now ≡ Evaluated
evaluated_is (Refused place bound limit) e = cc
evaluated_is Idle e = cc
evaluated_is (Taken caller) e = cc
evaluated_is Evaluated e = refl
evaluated_is Answered e = cc

-- a signature that is needed, and may be issued
pub record IsNext (f : Fixed) (s : State) (σ : Signature) : Type 0 where
  pub none : has_live σ s.instances ≡ false
  pub stands : condition f s σ ≡ true
  pub needed : IsNeeded f s.circuits σ

may_be : (f : Fixed) (s : State) (σ : Signature) → may_issue f s σ ≡ true → (has_live σ s.instances ≡ false) × (condition f s σ ≡ true)
unfolding may_issue
may_be f s σ h = let both = and_parts (not (has_live σ s.instances)) (condition f s σ) h in (not-true (has_live σ s.instances) both.0, both.1)

decryption_is : (f : Fixed) (s : State) (σ : Signature) → next_decryption f s ≡ Some σ → IsNext f s σ
unfolding next_decryption may_decrypt
decryption_is f s σ e =
    let image = map_some Dec (find (may_decrypt f s) (range_with_len 0 (length s.circuits))) σ e in
    let c = image.from in
    let found = find_some (may_decrypt f s) (range_with_len 0 (length s.circuits)) c image.was in
    let both = and_parts (is_evaluated (circuit s.circuits c)) (may_issue f s (Dec c)) found.1 in
    let may = may_be f s (Dec c) both.1 in
    subst (λ (τ : Signature). IsNext f s τ) image.gives
    (record { none = may.0; stands = may.1; needed = decryption c refl found.0 (evaluated_is (circuit s.circuits c) both.0) })

pub next_is : (f : Fixed) (s : State) (σ : Signature) → next_signature f s ≡ Some σ → IsNext f s σ
unfolding next_signature
next_is f s σ e = elim (or_some (find (may_issue f s) (keys f)) (next_decryption f s) σ e) [
  | inl found ↦
      let at = find_some (may_issue f s) (keys f) σ found in
      let may = may_be f s σ at.1 in
      record { none = may.0; stands = may.1; needed = key at.0 }
  | inr later ↦ decryption_is f s σ later.1
]

-- ---- the moves

pub data MoveIs (f : Fixed) (s : State) (m : Move) : Type 0 where
  gives_up : (i : Instance) (by : ℕ) → has_live Rlk2 s.instances ≡ false → Contains s.instances i → IsDone Rlk1 i → is_outside i.set.bits s.present by ≡ true → m ≡ GiveUp i.id by → MoveIs f s m
  second : (i : Instance) → has_live Rlk2 s.instances ≡ false → Contains s.instances i → IsDone Rlk1 i → first_outside i.set.bits s.present ≡ None → IsNeeded f s.circuits Rlk2 → m ≡ Issue Rlk2 i.set i.id → MoveIs f s m
  other : (σ : Signature) → σ ≢ Rlk2 → has_live σ s.instances ≡ false → f.threshold ≤ count s.present → IsNeeded f s.circuits σ → m ≡ Issue σ (chosen_present f s) 0 → MoveIs f s m

rule_1_is : (f : Fixed) (s : State) (m : Move) → rule_1 s ≡ Some m → MoveIs f s m
unfolding rule_1 outdated first_outside
rule_1_is f s m e =
    let u = unless_some (has_live Rlk2 s.instances) (option_and_then (outdated s) (find (is_done Rlk1) s.instances)) m e in
    let t = and_then_some (outdated s) (find (is_done Rlk1) s.instances) m u.1 in
    let found = find_some (is_done Rlk1) s.instances t.from t.was in
    let image = map_some (GiveUp t.from.id) (first_outside t.from.set.bits s.present) m t.gives in
    gives_up t.from image.from u.0 found.0 (done_is Rlk1 t.from found.1) (find_some (is_outside t.from.set.bits s.present) (range_with_len 1 32) image.from image.was).1 (sym image.gives)

-- where rule 1 does not apply, all parties of a complete first round are present
all_present : (s : State) (i : Instance) → rule_1 s ≡ None → has_live Rlk2 s.instances ≡ false → find (is_done Rlk1) s.instances ≡ Some i → first_outside i.set.bits s.present ≡ None
unfolding rule_1 outdated
all_present s i e none found = map_none (GiveUp i.id) (first_outside i.set.bits s.present) (rw (none, found) at e)

issued_second : (f : Fixed) (s : State) (m : Move) → rule_1 s ≡ None → has_live Rlk2 s.instances ≡ false → IsNeeded f s.circuits Rlk2
    → option_map second_round (find (is_done Rlk1) s.instances) ≡ Some m → MoveIs f s m
issued_second f s m idle none needed e =
    let image = map_some second_round (find (is_done Rlk1) s.instances) m e in
    let found = find_some (is_done Rlk1) s.instances image.from image.was in
    second image.from none found.0 (done_is Rlk1 image.from found.1) (all_present s image.from idle none image.was) needed (sym image.gives)

issued_is : (f : Fixed) (s : State) (σ : Signature) (m : Move) → rule_1 s ≡ None → IsNext f s σ
    → issued_as f s σ ≡ Some m → MoveIs f s m
unfolding issued_as condition enough
issued_is f s σ m idle n e = at (same σ Rlk2) refl (n.stands) e
  where
    at : (b : Bool) → same σ Rlk2 ≡ b → cond b (has_done Rlk1 s.instances) (nat_le f.threshold (count s.present)) ≡ true
        → (if b then option_map second_round (find (is_done Rlk1) s.instances) else Some (Issue σ (chosen_present f s) 0)) ≡ Some m → MoveIs f s m
    at true h stands e =
        let second : σ ≡ Rlk2 = same_is σ Rlk2 h in
        issued_second f s m idle (subst (λ (τ : Signature). has_live τ s.instances ≡ false) second n.none) (subst (λ (τ : Signature). IsNeeded f s.circuits τ) second n.needed) e
    at false h stands e =
        other σ (λ second. both_ways (same σ Rlk2) h (subst (λ (τ : Signature). same τ Rlk2 ≡ true) (sym second) (same_self Rlk2))) n.none (leb-true f.threshold (count s.present) stands) n.needed cc

rule_2_is : (f : Fixed) (s : State) (m : Move) → rule_1 s ≡ None → rule_2 f s ≡ Some m → MoveIs f s m
unfolding rule_2
rule_2_is f s m idle e =
    let t = and_then_some (issued_as f s) (next_signature f s) m e in
    issued_is f s t.from m idle (next_is f s t.from t.was) t.gives

pub move_is : (f : Fixed) (s : State) (m : Move) → next_move f s ≡ Some m → MoveIs f s m
unfolding next_move
move_is f s m e = elim (or_some (rule_1 s) (rule_2 f s) m e) [
  | inl first ↦ rule_1_is f s m first
  | inr rest ↦ rule_2_is f s m rest.0 rest.1
]
