-- The input is given where it isn't refused.
use Rattle.std.proofs.Common.{◌≡◌, ◌∙◌, sym, ap, refl}
use Rattle.ring_spec.specs.Pairs.{Cipher}
use Rattle.session_rules.specs.declared.reply.Reply.TheVariants as reply
use Rattle.session_rules.specs.declared.deed.Deed.TheVariants.{Gives}
use Rattle.session_spec.specs.Stores.{cipher_brought, with_deed}
use Rattle.session_state.specs.Standings.{setting, store, inputted}
use Rattle.session_state.proofs.Onward.{refused, its_deed, ends_state, ends_store}
use Rattle.session_state.proofs.standing.Standing.input.Goals as goal

pub returns-then-is_nothing-clause-state : goal.returns-then-is_nothing-clause-state
returns-then-is_nothing-clause-state c =
    let st = c.args.self.now in let e = c.verdict_on_input-verdict.ensures in
    (refused st c.verdict_on_input-verdict.result (inputted st c.args.circuit c.args.input) (cipher_brought c.args.ct) e.said (sym c.is_nothing.ensures ∙ c.if-is_nothing.true)).0

pub returns-then-is_nothing-clause-store : goal.returns-then-is_nothing-clause-store
returns-then-is_nothing-clause-store c =
    let st = c.args.self.now in let e = c.verdict_on_input-verdict.ensures in
    (refused st c.verdict_on_input-verdict.result (inputted st c.args.circuit c.args.input) (cipher_brought c.args.ct) e.said (sym c.is_nothing.ensures ∙ c.if-is_nothing.true)).1

gives : (c : goal.After-give) → (inputted c.args.self.now c.args.circuit c.args.input).deed ≡ Gives c.args.circuit c.args.input
gives c =
    let st = c.args.self.now in let n = c.args.circuit in let k = c.args.input in let e = c.verdict_on_input-verdict.ensures in
    its_deed c.verdict_on_input-verdict.result (inputted st n k) reply.Given (Gives n k) e.said (e.gives (sym c.is_nothing.ensures ∙ c.if-is_nothing.false))

pub returns-clause-state : goal.returns-clause-state
returns-clause-state c =
    let st = c.args.self.now in let n = c.args.circuit in let k = c.args.input in
    ends_state st c.give.new.self (inputted st n k) (Gives n k) (cipher_brought c.args.ct) (gives c) refl c.give.ensures.state

pub returns-clause-store : goal.returns-clause-store
returns-clause-store c =
    let st = c.args.self.now in let n = c.args.circuit in let k = c.args.input in
    ends_store st c.give.new.self (inputted st n k) (Gives n k) (cipher_brought c.args.ct) (gives c) refl
    (c.give.ensures.store ∙ ap (λ (z : Cipher). with_deed (setting st) (Gives n k) (cipher_brought z) (store st)) c.in_ok-ct.ensures.ok)
