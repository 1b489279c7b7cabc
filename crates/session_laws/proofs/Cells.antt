-- Lists of rows of which one entry is set, and the rows of a store's inputs.
use Rattle.std.proofs.Common.{◌≡◌, ◌≢◌, ◌∙◌, sym, ap, ℕ, ◌<◌, List, [], length, get_or, set, Option, arith}
use Rattle.std.proofs.lemmas.List.{get_or-map, get_or-set_same, get_or-set_other, length-map}
use Rattle.ring_spec.specs.Pairs.{Cipher}
use Rattle.session_rules.specs.States.{State}
use Rattle.session_spec.specs.Settings.{Setting, no_offer, input_count}
use Rattle.session_spec.specs.Stores.{Store}
use Rattle.session_spec.specs.Honesty.{count_inputs, Matches}

-- ---- one entry of one row

module _ {X : Type 0} (rows : List (List X)) (c k : ℕ) (x d : X) where
  abbrev changed : List (List X)
  changed = set rows c (set (get_or rows c []) k x)

  pub cell_same : c < length rows → k < length (get_or rows c []) → get_or (get_or changed c []) k d ≡ x
  cell_same l m = ap (λ (z : List X). get_or z k d) (get_or-set_same rows c (set (get_or rows c []) k x) [] l) ∙ get_or-set_same (get_or rows c []) k x d m

  pub cell_beside : (j : ℕ) → c < length rows → j ≢ k → get_or (get_or changed c []) j d ≡ get_or (get_or rows c []) j d
  cell_beside j l other = ap (λ (z : List X). get_or z j d) (get_or-set_same rows c (set (get_or rows c []) k x) [] l) ∙ get_or-set_other (get_or rows c []) k j x d other

  pub cell_off : (e j : ℕ) → e ≢ c → get_or (get_or changed e []) j d ≡ get_or (get_or rows e []) j d
  cell_off e j other = ap (λ (z : List X). get_or z j d) (get_or-set_other rows c e (set (get_or rows c []) k x) [] other)

-- ---- the rows of the inputs

abbrev row_length : List (Option Cipher) → ℕ
row_length row = length row

pub inputs_number : (w : Setting) (s : State) (h : Store) → Matches w s h → length h.inputs ≡ length w.offers
inputs_number w s h m = sym (length-map h.inputs row_length) ∙ ap length m.inputs ∙ length-map w.offers count_inputs

pub row_number : (w : Setting) (s : State) (h : Store) (c : ℕ) → Matches w s h → c < length w.offers → length (get_or h.inputs c []) ≡ input_count w c
row_number w s h c m l =
    let there : c < length h.inputs = omega (arith, inputs_number w s h m) in
    sym (get_or-map row_length h.inputs c [] 0 there) ∙ ap (λ (z : List ℕ). get_or z c 0) m.inputs ∙ get_or-map count_inputs w.offers c no_offer 0 l
