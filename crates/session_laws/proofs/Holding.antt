-- What an honest store holds, instance by instance of a list with numbers, and that it does so once instances
-- are issued.
use Rattle.std.proofs.Common.{◌≡◌, ◌∙◌, sym, ap, subst, refl, ℕ, ◌+◌, ◌-◌, ◌<◌, Bool, true, false, List, [], ◌∷◌, ◌++◌, inr, length, map, drop, get_or, Contains, Option, Some, arith}
use Rattle.std.specs.Prelude.{⊤}
use Rattle.std.proofs.lemmas.Bool.{both_ways}
use Rattle.std.proofs.lemmas.List.{get_or-map, get_or-drop, get_or_append_left, get_or-append_right, length-drop}
use Rattle.param_set.specs.declared.params.Params.{Params}
use Rattle.ring_spec.specs.Pairs.{Cipher, Key}
use Rattle.param_set.specs.Numbers.{Numbers}
use Rattle.cipher_spec.specs.Keys.{Keys}
use Rattle.proto_names.specs.Roles.{role_of}
use Rattle.proto_names.specs.declared.sets.PartySet.{PartySet}
use Rattle.proto_names.specs.declared.instance.Stage.TheVariants.{Complete}
use Rattle.proto_names.specs.Names.{is_void}
use Rattle.proto_names.specs.declared.signature.Signature.{Signature}
use Rattle.proto_names.specs.declared.signature.Signature.TheVariants.{Pk, Rlk1, Rlk2, Rot, Dec}
use Rattle.proto_names.specs.declared.instance.Instance.{Instance}
use Rattle.session_rules.specs.declared.state.CircuitState.{CircuitState}
use Rattle.session_rules.specs.declared.state.CircuitState.TheVariants.{Evaluated, Answered}
use Rattle.session_rules.specs.States.{State, circuit, is_given}
use Rattle.session_rules.specs.Issues.{issue}
use Rattle.session_rules.specs.Facts.{Kept, IsLater, IsLive, IsSound, Numbered, is_settled}
use Rattle.session_rules.proofs.Stepwise.{issue_beside}
use Rattle.session_rules.proofs.Marks.{instance_within, instance_id, found, numbered_at, opened_lives, complete_lives}
use Rattle.session_rules.proofs.Keeps.{issue_next}
use Rattle.session_rules.proofs.Issued.{IsNew, stayed, lapsed, came, Stems, issue_stems}
use Rattle.session_spec.specs.Settings.{Setting, rules, plain_at, IsSetting}
use Rattle.session_spec.specs.Shares.{first_round_share, rows_by, sum_row, sum_rows, full_sums, first_sums}
use Rattle.session_spec.specs.Outputs.{key_in, keys_in, input_of, output_of, told_by, polys_of, sums_of}
use Rattle.session_spec.specs.Stores.{Store, cipher_or, held_polys, held_sums, held_input, held_output, held_answer, polys_by, polys_told, zero_sums, grown}
use Rattle.session_spec.specs.Honesty.{IsHonest}
use Rattle.session_laws.proofs.Plans.{settled_begun, circuit_within, circuits_number}
use Rattle.session_laws.proofs.Keys.{Keyed, key_stays, output_stays, polys_stay}
use Rattle.session_laws.proofs.Totals.{all_sent, same_sums, nobody_sums}

-- ---- by instances in place of numbers

abbrev pub Told : Setting → List (List ℕ) → (ℕ → Keys) → Store → List Instance → Type 0
Told w seeds keys h is = (i : Instance) → Contains is i → IsLive i → held_polys h i.id ≡ polys_of w seeds keys (role_of i)

abbrev pub Summed : Setting → List (List ℕ) → (ℕ → Keys) → Store → List Instance → Type 0
Summed w seeds keys h is = (i : Instance) → Contains is i → IsLive i → held_sums h i.id ≡ sums_of w seeds keys i

pub record Holds (w : Setting) (seeds : List (List ℕ)) (s : State) (h : Store) : Type 0 where
  pub told : Told w seeds (keys_in w seeds s.instances) h s.instances
  pub sums : Summed w seeds (keys_in w seeds s.instances) h s.instances
  pub inputs : (c k : ℕ) → is_given s c k ≡ true → held_input h c k ≡ Some (input_of w seeds (key_in w seeds s.instances) c k)
  pub outputs : (c : ℕ) → c < length w.offers → is_settled (circuit s.circuits c) ≡ true → held_output h c ≡ Some (output_of w seeds (keys_in w seeds s.instances c) c)
  pub answers : (c : ℕ) → c < length w.offers → circuit s.circuits c ≡ Answered → held_answer h c ≡ Some (plain_at w c)

pub holds_from : (w : Setting) (seeds : List (List ℕ)) (s : State) (h : Store) → Numbered s.instances → IsHonest w seeds s h → Holds w seeds s h
holds_from w seeds s h n y = record {
  told = λ i m alive. y.told i.id i (found s.instances i n m) alive;
  sums = λ i m alive. y.sums i.id i (found s.instances i n m) alive;
  inputs = y.inputs;
  outputs = y.outputs;
  answers = y.answers;
}

pub honest_from : (w : Setting) (seeds : List (List ℕ)) (s : State) (h : Store) → Numbered s.instances → Holds w seeds s h → IsHonest w seeds s h
honest_from w seeds s h n y = record {
  told = λ id i found_ alive.
      subst (λ (z : ℕ). held_polys h z ≡ polys_of w seeds (keys_in w seeds s.instances) (role_of i)) (instance_id s.instances id i n found_) (y.told i (instance_within s.instances id i found_) alive);
  sums = λ id i found_ alive.
      subst (λ (z : ℕ). held_sums h z ≡ sums_of w seeds (keys_in w seeds s.instances) i) (instance_id s.instances id i n found_) (y.sums i (instance_within s.instances id i found_) alive);
  inputs = y.inputs;
  outputs = y.outputs;
  answers = y.answers;
}

-- ---- the sums of an instance

pub setting_modulus : (p : Params) (w : Setting) → IsSetting p w → 0 < w.numbers.q
setting_modulus p w y =
    let same : w.numbers.q ≡ p.q = ap (λ (z : Numbers). z.q) y.numbers in
    let large = p.modulus in
    let least = large.0 in
    omega arith

pub sums_stay : (w : Setting) (seeds : List (List ℕ)) (keys other : ℕ → Keys) (i : Instance) → polys_of w seeds keys (role_of i) ≡ polys_of w seeds other (role_of i) → sums_of w seeds keys i ≡ sums_of w seeds other i
unfolding sums_of
sums_stay w seeds keys other i e = ap (λ (z : List (List ℕ)). sum_rows w seeds (role_of i) z i.sent.bits) e

fresh_sums : (w : Setting) (seeds : List (List ℕ)) (keys : ℕ → Keys) (i : Instance) → 0 < w.numbers.q → i.sent.bits ≡ 0 → zero_sums w i ≡ sums_of w seeds keys i
unfolding sums_of
fresh_sums w seeds keys i h e =
    let polys = polys_of w seeds keys (role_of i) in
    nobody_sums w seeds (role_of i) polys h ∙ ap (λ (z : ℕ). sum_rows w seeds (role_of i) polys z) (sym e)

-- the parties of a complete instance have all sent
pub full_sums_held : (w : Setting) (seeds : List (List ℕ)) (s : State) (h : Store) (i : Instance) → Kept (rules w) s → Holds w seeds s h → Contains s.instances i → i.stage ≡ Complete
    → held_sums h i.id ≡ full_sums w seeds (role_of i) (polys_of w seeds (keys_in w seeds s.instances) (role_of i))
unfolding sums_of
full_sums_held w seeds s h i k holds m complete =
    let sound : IsSound (rules w) s.present i = k.sound i m in
    holds.sums i m (complete_lives i complete)
    ∙ same_sums w seeds (role_of i) (polys_of w seeds (keys_in w seeds s.instances) (role_of i)) i.sent.bits i.set.bits (all_sent i.set.bits i.sent.bits sound.senders (sound.complete complete))

-- what they are told, by the signature
pub told_at : (w : Setting) (seeds : List (List ℕ)) (keys : ℕ → Keys) (i : Instance) (σ : Signature) → i.signature ≡ σ → polys_of w seeds keys (role_of i) ≡ told_by w seeds keys σ (role_of i)
told_at w seeds keys i σ e = ap (λ (z : Signature). told_by w seeds keys z (role_of i)) e

-- sums of a first round have no part of a round before it or of a group
first_rows : (w : Setting) (seeds : List (List ℕ)) (id : ℕ) (set : PartySet) (round group other : ℕ)
    → full_sums w seeds (record { signature = Rlk1; id = id; set = set; round1 = round; group = group }) [] ≡ full_sums w seeds (record { signature = Rlk1; id = id; set = set; round1 = 0; group = other }) []
unfolding sum_rows sum_row rows_by first_round_share
first_rows w seeds id set round group other = refl

-- the sums of the first round of a second one
pub first_sums_held : (w : Setting) (seeds : List (List ℕ)) (s : State) (h : Store) (i first : Instance) → Kept (rules w) s → Holds w seeds s h → Contains s.instances first
    → first.signature ≡ Rlk1 → first.stage ≡ Complete → first.id ≡ i.round1 → first.set ≡ i.set → held_sums h i.round1 ≡ first_sums w seeds (role_of i)
unfolding first_sums told_by
first_sums_held w seeds s h i first k holds m signature complete id set =
    let keys = keys_in w seeds s.instances in
    ap (λ (z : ℕ). held_sums h z) (sym id)
    ∙ full_sums_held w seeds s h first k holds m complete
    ∙ ap (full_sums w seeds (role_of first)) (told_at w seeds keys first Rlk1 signature)
    ∙ ap (λ (z : Signature). full_sums w seeds (record { signature = z; id = first.id; set = first.set; round1 = first.round1; group = first.group }) []) signature
    ∙ first_rows w seeds first.id first.set first.round1 first.group i.group
    ∙ ap (λ (z : ℕ). full_sums w seeds (record { signature = Rlk1; id = z; set = first.set; round1 = 0; group = i.group }) []) id
    ∙ ap (λ (z : PartySet). full_sums w seeds (record { signature = Rlk1; id = i.round1; set = z; round1 = 0; group = i.group }) []) set

-- ---- lists that grow with the instances

below : {X : Type 0} (xs ys : List X) (i : Instance) (is : List Instance) (d : X) → Numbered is → Contains is i → length xs ≡ length is → get_or (xs ++ ys) (i.id - 1) d ≡ get_or xs (i.id - 1) d
below xs ys i is d n m e =
    let at = numbered_at is i n m in
    let l = m.1 in
    get_or_append_left xs ys d (i.id - 1) (omega arith)

above : {X : Type 0} (xs : List X) (g : Instance → X) (i : Instance) (is : List Instance) (d : X) → Numbered is → Contains is i → length xs < i.id → get_or (xs ++ map g (drop (length xs) is)) (i.id - 1) d ≡ g i
above xs g i is d n m l =
    let many = length xs in
    let at = numbered_at is i n m in
    let inside = m.1 in
    let rest = drop many is in
    let within : i.id - 1 - many < length rest = omega (arith, length-drop many is) in
    let place : many + (i.id - 1 - many) ≡ m.0 = omega arith in
    get_or-append_right xs (map g rest) many (i.id - 1) d refl (omega arith)
    ∙ get_or-map g rest (i.id - 1 - many) i d within
    ∙ ap g (get_or-drop many is (i.id - 1 - many) i ∙ ap (λ (z : ℕ). get_or is z i) place ∙ m.2)

abbrev Anything : Signature → Type 0
Anything σ = ⊤

module _ (p : Params) (w : Setting) (seeds : List (List ℕ)) (s t : State) (h : Store) (setting : IsSetting p w) (kept : Kept (rules w) s) (y : Keyed w s)
    (told : length h.told ≡ length s.instances) (sums : length h.sums ≡ length s.instances)
    (then_ : Kept (rules w) t) (later : IsLater s t) (stems : Stems Anything s t.instances) (given : t.given ≡ s.given) (circuits : t.circuits ≡ s.circuits) (holds : Holds w seeds s h) where
  abbrev before : ℕ → Keys
  before = keys_in w seeds s.instances

  abbrev now : ℕ → Keys
  now = keys_in w seeds t.instances

  abbrev larger : Store
  larger = grown w t.instances h

  -- a first round that is complete was there
  complete_before : (i : Instance) → Contains t.instances i → i.stage ≡ Complete → Contains s.instances i
  complete_before i m e = elim (stems i m) [
    | stayed there ↦ there
    | lapsed void ↦ absurd (both_ways (is_void i.stage) (complete_lives i e) void)
    | came u ↦ let o = u.opened in cc
  ]

  -- what is told of a new one comes from the sums of its first round, and from the output, which are there
  new_told : (i : Instance) → Contains t.instances i → IsNew Anything s i → (σ : Signature) → i.signature ≡ σ → polys_by h σ i.round1 ≡ told_by w seeds now σ (role_of i)
  unfolding polys_by told_by
  new_told i m u Pk e = refl
  new_told i m u Rlk1 e = refl
  new_told i m u Rlk2 e =
      let x = then_.rounds i m e (opened_lives i u.opened) in
      first_sums_held w seeds s h i x.first kept holds (complete_before x.first x.issued x.complete) x.signature x.complete x.id x.set
  new_told i m u (Rot g) e = refl
  new_told i m u (Dec c) e =
      let evaluated : circuit t.circuits c ≡ Evaluated = (then_.decrypts i m).opened c e u.opened in
      let was : circuit s.circuits c ≡ Evaluated = subst (λ (z : List CircuitState). circuit z c ≡ Evaluated) circuits evaluated in
      let within : c < length w.offers = omega (arith, circuit_within s.circuits c Evaluated was (λ e. cc), circuits_number w s kept) in
      let there : held_output h c ≡ Some (output_of w seeds (before c) c) = holds.outputs c within (rw was refl) in
      let same : output_of w seeds (before c) c ≡ output_of w seeds (now c) c = output_stays w seeds s t c y then_ later (rw was refl) in
      ap (λ (z : Option Cipher). (cipher_or z).c1 ∷ []) there ∙ ap (λ (z : Cipher). z.c1 ∷ []) same

  grown_told : Told w seeds now larger t.instances
  unfolding grown
  grown_told i m alive = elim (stems i m) [
    | lapsed void ↦ absurd (both_ways (is_void i.stage) alive void)
    | stayed there ↦
        below h.told (map (polys_told h) (drop (length h.told) t.instances)) i s.instances [] kept.numbered there told
        ∙ holds.told i there alive ∙ polys_stay w seeds s t i kept y then_ later there
    | came u ↦
        let l = u.id in
        above h.told (polys_told h) i t.instances [] then_.numbered m (omega arith) ∙ new_told i m u i.signature refl
  ]

  grown_sums : Summed w seeds now larger t.instances
  unfolding grown
  grown_sums i m alive = elim (stems i m) [
    | lapsed void ↦ absurd (both_ways (is_void i.stage) alive void)
    | stayed there ↦
        below h.sums (map (zero_sums w) (drop (length h.sums) t.instances)) i s.instances [] kept.numbered there sums
        ∙ holds.sums i there alive ∙ sums_stay w seeds before now i (polys_stay w seeds s t i kept y then_ later there)
    | came u ↦
        let l = u.id in
        above h.sums (zero_sums w) i t.instances [] then_.numbered m (omega arith) ∙ fresh_sums w seeds now i (setting_modulus p w setting) u.unsent
  ]

  -- nothing else changes
  pub grown_holds : Holds w seeds t larger
  unfolding grown
  grown_holds = record {
    told = grown_told;
    sums = grown_sums;
    inputs = λ c k e.
        let was : is_given s c k ≡ true = subst (λ (z : List (List Bool)). get_or (get_or z c []) k false ≡ true) given e in
        holds.inputs c k was ∙ ap (λ (z : Key). Some (input_of w seeds z c k)) (key_stays w seeds s t then_ later (y.given c k was));
    outputs = λ c l e.
        let was : is_settled (circuit s.circuits c) ≡ true = subst (λ (z : List CircuitState). is_settled (circuit z c) ≡ true) circuits e in
        holds.outputs c l was ∙ ap Some (output_stays w seeds s t c y then_ later (settled_begun (circuit s.circuits c) was));
    answers = λ c l e. holds.answers c l (subst (λ (z : List CircuitState). circuit z c ≡ Answered) circuits e);
  }

-- ---- so it is once instances are issued

pub issue_holds : (p : Params) (w : Setting) (seeds : List (List ℕ)) (s : State) (h : Store) → IsSetting p w → Kept (rules w) s → Keyed w s
    → length h.told ≡ length s.instances → length h.sums ≡ length s.instances → Holds w seeds s h → Holds w seeds (issue (rules w) s) (grown w (issue (rules w) s).instances h)
issue_holds p w seeds s h setting k y told sums holds =
    let t = issue (rules w) s in
    let goes = issue_next (rules w) s k in
    let beside = issue_beside (rules w) s in
    grown_holds p w seeds s t h setting k y told sums goes.0 goes.1 (issue_stems Anything (rules w) s k (λ σ a b e. tt) (inr tt)) beside.given beside.circuits holds
