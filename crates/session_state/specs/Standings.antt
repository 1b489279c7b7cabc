-- What a standing stands for.
use Rattle.std.specs.Prelude.{◌≡◌, ℕ, ◌+◌, ◌^◌, ◌≤◌, length}
use Rattle.session_rules.specs.declared.deed.Verdict.{Verdict}
use Rattle.session_rules.specs.declared.fixed.Fixed.{Fixed}
use Rattle.session_rules.specs.States.{State, seen}
use Rattle.session_rules.specs.Issues.{most_moves}
use Rattle.session_rules.specs.Deeds.{done}
use Rattle.session_rules.specs.Steps.{join, lose, deliver, input, take, finish, give_back}
use Rattle.session_spec.specs.Settings.{Setting, rules}
use Rattle.session_spec.specs.Stores.{Store, Brought, store_done}
use Rattle.session_state.specs.Parts.{setting_by, store_by}
use Rattle.session_state.specs.declared.standing.Standing.{Standing}

-- what it is about, and what the rules look at
abbrev pub setting : Standing → Setting
setting st = setting_by st.params st.public st.circuits

abbrev pub rules_of : Standing → Fixed
rules_of st = rules (setting st)

-- its state, and its polynomials
abbrev pub state : Standing → State
state st = seen st.present.bits st.table.instances.items st.given.items st.states.items

abbrev pub store : Standing → Store
store st = store_by st.table.briefs.items st.table.sums.items st.inputs.items st.outputs st.answers

-- there is room for the instances that a call issues
abbrev pub HasRoom : Standing → Type 0
HasRoom st = length st.table.instances.items + most_moves (rules_of st) ≤ 2 ^ 30

-- nothing has changed
pub record IsUnchanged (old new : Standing) : Type 0 where
  pub state : state new ≡ state old
  pub store : store new ≡ store old

-- ---- what the rules say to each call

abbrev pub joined : Standing → ℕ → Verdict
joined st p = join (state st) p

abbrev pub lost : Standing → ℕ → Verdict
lost st p = lose (state st) p

abbrev pub delivered : Standing → ℕ → ℕ → ℕ → Verdict
delivered st id p rows = deliver (rules_of st) (state st) id p rows

abbrev pub inputted : Standing → ℕ → ℕ → Verdict
inputted st c k = input (rules_of st) (state st) c k

abbrev pub taken : Standing → ℕ → Verdict
taken st who = take (rules_of st) (state st) who

abbrev pub finished : Standing → ℕ → ℕ → Verdict
finished st who c = finish (state st) who c

abbrev pub returned : Standing → ℕ → ℕ → Verdict
returned st who c = give_back (state st) who c

-- the state and the store once it is done, with what the call brought
abbrev pub state_then : Standing → Verdict → State
state_then st v = done (rules_of st) v.deed (state st)

abbrev pub store_then : Standing → Verdict → Brought → Store
store_then st v b = store_done (setting st) v.deed b (state_then st v).instances (store st)
