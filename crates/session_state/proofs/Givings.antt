-- An input that is given: where it is put, and that what holds of the store holds then.
use Rattle.std.proofs.Common.{◌≡◌, ◌∙◌, sym, ap, subst, refl, ℕ, ◌<◌, Bool, true, false, inl, inr, List, [], length, get_or, set, Option, Some, None, arith, length-set}
use Rattle.std.specs.Prelude.{nat_lt}
use Rattle.std.proofs.lemmas.Bool.{cases_eq, cases_lt, and_parts, ltb-true}
use Rattle.std.proofs.lemmas.List.{get_or_past}
use Rattle.std.proofs.Math.Seq.{map-set_same}
use Rattle.ring_spec.specs.Pairs.{Cipher, CipherFits}
use Rattle.param_set.specs.declared.params.Params.{Params}
use Rattle.proto_names.specs.declared.instance.Instance.{Instance}
use Rattle.session_rules.specs.declared.fixed.Plan.{Plan}
use Rattle.session_rules.specs.declared.fixed.Fixed.{Fixed}
use Rattle.session_rules.specs.States.{State, plan, no_plan, is_given, is_admitted}
use Rattle.session_rules.specs.Deeds as deeds
use Rattle.session_rules.specs.Steps.{is_input}
use Rattle.session_rules.specs.Facts.{Kept}
use Rattle.session_rules.specs.Grounds.{Grounded}
use Rattle.session_spec.specs.Settings.{Setting, rules}
use Rattle.session_spec.specs.Stores.{Store, held_input, held_key, with_input}
use Rattle.session_spec.specs.Honesty.{Matches}
use Rattle.session_state.specs.Parts.{HasCipher, Holds}
use Rattle.session_state.proofs.Rows.{rules_number, plan_inputs, row_length, inputs_number, row_number, cell_same, cell_beside, cell_off}

-- ---- where it is put

pub record Place (w : Setting) (s : State) (h : Store) (c k : ℕ) : Type 0 where
  pub circuit : c < length w.offers
  pub flags : c < length s.given
  pub flag : k < length (get_or s.given c [])
  pub rows : c < length h.inputs
  pub row : k < length (get_or h.inputs c [])

input_place : (f : Fixed) (c k : ℕ) → is_input f c k ≡ true → k < length (plan f c).owners
unfolding is_input
input_place f c k e = ltb-true k (length (plan f c).owners) (and_parts (is_admitted (plan f c)) (nat_lt k (length (plan f c).owners)) e).1

input_circuit : (f : Fixed) (c k : ℕ) → is_input f c k ≡ true → c < length f.plans
input_circuit f c k its = elim (cases_lt c (length f.plans)) [
  | inl less ↦ less
  | inr more ↦ let l = input_place f c k its in let e : length (plan f c).owners ≡ 0 = ap (λ (z : Plan). length z.owners) (get_or_past f.plans c no_plan more) in absurd (omega arith)
]

pub place : (w : Setting) (s : State) (h : Store) (c k : ℕ) → Kept (rules w) s → Grounded (rules w) s → Matches w s h → is_input (rules w) c k ≡ true → Place w s h c k
place w s h c k kept grounded m e =
    let first = input_circuit (rules w) c k e in
    let second = input_place (rules w) c k e in
    let there : c < length w.offers = omega (arith, rules_number w) in
    record {
      circuit = there;
      flags = omega (arith, kept.given);
      flag = omega (arith, grounded.rows c);
      rows = omega (arith, inputs_number w s h m);
      row = omega (arith, plan_inputs w c, row_number w s h c m there);
    }

-- ---- what holds then

given_matches : (w : Setting) (s : State) (h : Store) (c k : ℕ) (ct : Cipher) (flags : List (List Bool)) → Matches w s h → Matches w (record s { given = flags }) (with_input c k ct h)
unfolding with_input
given_matches w s h c k ct flags m =
    record {
      told = m.told;
      sums = m.sums;
      inputs = map-set_same row_length h.inputs c (set (get_or h.inputs c []) k (Some ct)) [] (length-set (get_or h.inputs c []) k (Some ct)) ∙ m.inputs;
      outputs = m.outputs;
      answers = m.answers;
    }

has_cipher : (p : Params) (ct : Cipher) → CipherFits p.q p.n ct → HasCipher p (Some ct)
has_cipher p ct fits = record { there = refl; fits = fits }

given_holds : (p : Params) (w : Setting) (s : State) (h : Store) (c k : ℕ) (ct : Cipher) → Place w s h c k → CipherFits p.q p.n ct → Holds p s h
    → Holds p (record s { given = deeds.with_input s.given c k }) (with_input c k ct h)
unfolding with_input
given_holds p w s h c k ct at fits holds =
    let rows = at.flags in
    let held = at.rows in
    let row = at.row in
    let inputs : (d j : ℕ) → is_given (record s { given = deeds.with_input s.given c k }) d j ≡ true → HasCipher p (held_input (with_input c k ct h) d j) = λ d j e. elim (cases_eq d c) [
      | inr off ↦ subst (λ (z : Option Cipher). HasCipher p z) (sym (cell_off h.inputs c k (Some ct) None d j off)) (holds.inputs d j (sym (cell_off s.given c k true false d j off) ∙ e))
      | inl same ↦ elim (cases_eq j k) [
        | inl it ↦ rw (same, it) (subst (λ (z : Option Cipher). HasCipher p z) (sym (cell_same h.inputs c k (Some ct) None held row)) (has_cipher p ct fits))
        | inr beside ↦
            let was : is_given s c j ≡ true = sym (cell_beside s.given c k true false j rows beside) ∙ subst (λ (z : ℕ). is_given (record s { given = deeds.with_input s.given c k }) z j ≡ true) same e in
            rw same (subst (λ (z : Option Cipher). HasCipher p z) (sym (cell_beside h.inputs c k (Some ct) None j held beside)) (holds.inputs c j was))
      ]
    ] in
    record { told = holds.told; inputs = inputs; outputs = holds.outputs; answers = holds.answers }

-- both, for the flags and the rows as they stand then
pub record Stands (p : Params) (w : Setting) (s : State) (h : Store) : Type 0 where
  pub matches : Matches w s h
  pub holds : Holds p s h

pub given_stands : (p : Params) (w : Setting) (s : State) (h : Store) (c k : ℕ) (ct : Cipher) (flags : List (List Bool)) (rows : List (List (Option Cipher)))
    → Place w s h c k → CipherFits p.q p.n ct → Matches w s h → Holds p s h → deeds.with_input s.given c k ≡ flags
    → set h.inputs c (set (get_or h.inputs c []) k (Some ct)) ≡ rows → Stands p w (record s { given = flags }) (record h { inputs = rows })
unfolding with_input
given_stands p w s h c k ct flags rows at fits matches holds e same =
    subst (λ (z : List (List (Option Cipher))). Stands p w (record s { given = flags }) (record h { inputs = z })) same
    (subst (λ (z : List (List Bool)). Stands p w (record s { given = z }) (with_input c k ct h)) e
    (record { matches = given_matches w s h c k ct (deeds.with_input s.given c k) matches; holds = given_holds p w s h c k ct at fits holds }))

-- the key is made from other parts of the store
pub key_without_inputs : (w : Setting) (h : Store) (is : List Instance) (inputs : List (List (Option Cipher))) → held_key w h is ≡ held_key w (record h { inputs = inputs }) is
unfolding held_key
key_without_inputs w h is inputs = refl
