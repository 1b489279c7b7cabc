-- The history goes on by the call, and the polynomials stay honest.
use Rattle.std.proofs.Common.{◌∙◌, refl}
use Rattle.session_rules.specs.declared.call.Call.TheVariants as call
use Rattle.session_rules.specs.declared.reply.Reply.{Reply}
use Rattle.session_rules.specs.Steps.{judge, step}
use Rattle.session_spec.specs.Stores.{nothing_brought}
use Rattle.session_state.specs.Standings.{setting, state}
use Rattle.session_core.proofs.Brought.{lose_brings}
use Rattle.session_core.proofs.Going.{goes_on, called, reply_is}
use Rattle.session_core.proofs.session.Session.lose.Goals as goal

pub invariant_of-self-2 : goal.invariant_of-self-2
unfolding judge step
invariant_of-self-2 g c =
    let s = c.begin.new.self in let st = s.standing in let ok = c.in_ok-reply.ensures in let b = c.begin.ensures in
    let x = goes_on c.args.self.now s c.lose.new.self c.push_reserved.new.self.items c.args.caller (call.Lose c.args.p) _ c.plain_copy.result nothing_brought c.plain_copy.ensures b.waits c.in_ok-begin.ensures.more tt
    (record { setting = ok.setting; params = ok.params; reply = ok.reply; state = ok.state; store = ok.store })
    (λ t. lose_brings (setting st) _ (state st) c.args.p nothing_brought)
    c.push_reserved.ensures.items in
    record { public_is = x.public_is; legal = x.legal; state_is = x.state_is; sound = x.sound }

pub returns-clause-called : goal.returns-clause-called
unfolding judge step
returns-clause-called g c =
    let s = c.begin.new.self in let ok = c.in_ok-reply.ensures in let b = c.begin.ensures in let begun = c.in_ok-begin.ensures in let push = c.push_reserved.ensures in
    called (λ (r : Reply). r) c.args.self.now s _ _ c.args.caller (call.Lose c.args.p) c.plain_copy.result nothing_brought c.plain_copy.ensures
    (record { waits = b.waits; doubles = b.doubles; room = begun.room; more = begun.more })
    (record { setting = ok.setting; params = ok.params; reply = ok.reply; state = ok.state; store = ok.store })
    (record { roll = refl; most = refl; items = push.items; len = push.len; capacity = push.capacity })

pub returns-in_err-reply-clause-free : goal.returns-in_err-reply-clause-free
unfolding judge step
returns-in_err-reply-clause-free g c _ _ = reply_is c.args.self.now c.begin.new.self c.args.caller (call.Lose c.args.p) c.begin.ensures.waits ∙ c.in_err-reply.ensures.free
