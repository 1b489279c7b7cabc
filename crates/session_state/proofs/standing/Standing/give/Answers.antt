-- The flag of the input and its encryption stand at places that are there.
use Rattle.std.proofs.Common.{◌≡◌, ◌∙◌, sym, ap, refl, ℕ, ◌<◌, Bool, true, List, [], length, map, get_or, set, Option, Some, arith, length-set}
use Rattle.std.proofs.lemmas.List.{get_or_default, length-map}
use Rattle.std.specs.declared.alloc.Global.{Global}
use Rattle.std.specs.declared.sync.Arc.{Arc}
use Rattle.ring_spec.specs.Pairs.{Cipher}
use Rattle.session_rules.specs.Deeds.{with_input, changed}
use Rattle.session_rules.specs.Steps.{is_input}
use Rattle.session_rules.specs.Facts.{Kept}
use Rattle.session_rules.specs.Grounds.{Grounded}
use Rattle.session_spec.specs.Stores.{with_deed}
use Rattle.session_spec.specs.Stores as stores
use Rattle.session_state.specs.Parts.{ciphers_in}
use Rattle.session_state.specs.Standings.{setting, rules_of, state, store}
use Rattle.session_state.specs.declared.standing.Standing.{Standing}
use Rattle.session_state.proofs.Rows.{row_set, row_within, ciphers_set}
use Rattle.session_state.proofs.Givings.{Place, place, given_stands, key_without_inputs}
use Rattle.session_state.proofs.standing.Standing.give.Goals as goal

module _ (st : Standing) (c k : ℕ) (kept : Kept (rules_of st) (state st)) (grounded : Grounded (rules_of st) (state st)) (wanted : is_input (rules_of st) c k ≡ true) where
  at : Place (setting st) (state st) (store st) c k
  at = place (setting st) (state st) (store st) c k kept grounded st.matches wanted

  there : c < length st.inputs.items
  there = omega (arith, at.rows, length-map st.inputs.items ciphers_in)

  -- the flags of the circuit
  module _ (flags : List Bool) (its : flags ≡ get_or st.given.items c flags) where
    flag_there : k < length flags
    flag_there = omega (arith, at.flag, ap length (its ∙ get_or_default st.given.items c flags [] at.flags))

    given_then : (then_ : List Bool) → then_ ≡ set flags k true → set st.given.items c then_ ≡ with_input st.given.items c k
    given_then then_ e = ap (set st.given.items c) e ∙ row_set st.given.items c k true flags at.flags its

  -- its ciphertexts
  module _ (row : List (Option (Arc Cipher Global))) (its : row ≡ get_or st.inputs.items c row) where
    cell_there : k < length row
    cell_there = row_within st.inputs.items c k row there its at.row

    inputs_then : (ct : Arc Cipher Global) (then_ : List (Option (Arc Cipher Global))) → then_ ≡ set row k (Some ct)
        → map ciphers_in (set st.inputs.items c then_) ≡ set (map ciphers_in st.inputs.items) c (set (get_or (map ciphers_in st.inputs.items) c []) k (Some ct.value))
    inputs_then ct then_ e = ap (λ (z : List (Option (Arc Cipher Global))). map ciphers_in (set st.inputs.items c z)) e ∙ ciphers_set st.inputs.items c k row ct ct.value there its refl

pub index_mut-requires : goal.index_mut-requires
index_mut-requires c =
    let st = c.args.self.now in let r = c.requires in
    omega (arith, (at st c.args.circuit c.args.input r.kept r.grounded r.wanted).flags, st.given.ok.0)

pub set-requires : goal.set-requires
set-requires c = let r = c.requires in flag_there c.args.self.now c.args.circuit c.args.input r.kept r.grounded r.wanted c.index_mut.result.now c.index_mut.ensures.value

pub index_mut-requires-2 : goal.index_mut-requires-2
index_mut-requires-2 c =
    let st = c.args.self.now in let r = c.requires in
    omega (arith, there st c.args.circuit c.args.input r.kept r.grounded r.wanted, st.inputs.ok.0)

pub set-requires-2 : goal.set-requires-2
set-requires-2 c = let r = c.requires in cell_there c.args.self.now c.args.circuit c.args.input r.kept r.grounded r.wanted c.index_mut-2.result.now c.index_mut-2.ensures.value

pub invariant_of-self : goal.invariant_of-self
invariant_of-self c =
    let st = c.args.self.now in let n = c.args.circuit in let k = c.args.input in let r = c.requires in
    let w = setting st in
    let flags = given_then st n k r.kept r.grounded r.wanted c.index_mut.result.now c.index_mut.ensures.value c.set.new.self c.set.ensures in
    let rows = inputs_then st n k r.kept r.grounded r.wanted c.index_mut-2.result.now c.index_mut-2.ensures.value c.args.ct c.set-2.new.self c.set-2.ensures in
    let stands = given_stands st.params w (state st) (store st) n k c.args.ct.value _ _ (at st n k r.kept r.grounded r.wanted) r.fits st.matches st.holds (sym flags) (sym rows) in
    record {
      ring_is = st.ring_is;
      groups_are = st.groups_are;
      grouped = st.grouped;
      table_is = st.table_is;
      rules_are = st.rules_are;
      needed_are = st.needed_are;
      setting_is = st.setting_is;
      few = st.few;
      lengths = (st.lengths.0, length-set st.given.items n c.set.new.self ∙ st.lengths.1, st.lengths.2);
      few_inputs = st.few_inputs;
      few_turns = st.few_turns;
      matches = stands.matches;
      holds = stands.holds;
      keyed = st.keyed ∙ key_without_inputs w (store st) st.table.instances.items (map ciphers_in (set st.inputs.items n c.set-2.new.self));
    }

pub returns-clause-state : goal.returns-clause-state
unfolding changed
returns-clause-state c =
    let st = c.args.self.now in let r = c.requires in
    ap (λ (z : List (List Bool)). record (state st) { given = z })
    (given_then st c.args.circuit c.args.input r.kept r.grounded r.wanted c.index_mut.result.now c.index_mut.ensures.value c.set.new.self c.set.ensures)

pub returns-clause-store : goal.returns-clause-store
unfolding with_deed stores.with_input
returns-clause-store c =
    let st = c.args.self.now in let r = c.requires in
    ap (λ (z : List (List (Option Cipher))). record (store st) { inputs = z })
    (inputs_then st c.args.circuit c.args.input r.kept r.grounded r.wanted c.index_mut-2.result.now c.index_mut-2.ensures.value c.args.ct c.set-2.new.self c.set-2.ensures)
