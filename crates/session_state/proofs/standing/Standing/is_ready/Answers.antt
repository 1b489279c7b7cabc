-- Void instances play no part in it.
use Rattle.std.proofs.Common.{◌≡◌, ◌∙◌, ap, ℕ, Bool}
use Rattle.participants.specs.Live.{live_ones}
use Rattle.session_rules.specs.declared.fixed.Fixed.{Fixed}
use Rattle.session_rules.specs.States.{seen}
use Rattle.session_rules.specs.Steps.{ready}
use Rattle.session_rules.proofs.Live.{ready_same, done_live}
use Rattle.session_state.specs.Standings.{rules_of, state}
use Rattle.session_state.specs.declared.standing.Standing.{Standing}
use Rattle.session_state.proofs.standing.Standing.is_ready.Goals as goal

said_so : (st : Standing) (c : ℕ) (r : Bool) → r ≡ ready st.rules (seen 0 (live_ones st.table.instances.items) st.given.items st.states.items) c → r ≡ ready (rules_of st) (state st) c
said_so st c r e =
    let is = st.table.instances.items in
    e ∙ ready_same st.rules 0 st.present.bits (live_ones is) is st.given.items st.states.items (λ σ. done_live σ is) c
    ∙ ap (λ (f : Fixed). ready f (state st) c) st.rules_are

pub returns : goal.returns
returns c =
    let instances = c.live.ensures in
    let given = c.as_slice.ensures.value in
    let states = c.as_slice-2.ensures.value in
    let said = c.is_ready.ensures in
    said_so c.args.self.now c.args.c c.is_ready.result cc
