-- The history goes on by the call, and the polynomials stay honest.
use Rattle.std.proofs.Common.{◌∙◌, sym, refl}
use Rattle.session_rules.specs.declared.call.Call.TheVariants as call
use Rattle.session_rules.specs.Steps.{judge, step}
use Rattle.session_spec.specs.Stores.{nothing_brought}
use Rattle.session_state.specs.declared.handed.Taking.{Taking}
use Rattle.session_state.specs.Standings.{setting, rules_of, state, store}
use Rattle.session_core.proofs.Brought.{take_brings}
use Rattle.session_core.proofs.Handed.{free_if, inputs_if}
use Rattle.session_core.proofs.Going.{stands_in, goes_on, called, reply_is}
use Rattle.session_core.proofs.session.Session.take.Goals as goal

pub invariant_of-self-2 : goal.invariant_of-self-2
unfolding judge step
invariant_of-self-2 g c =
    let s = c.begin.new.self in let st = s.standing in let ok = c.in_ok-taking.ensures in let b = c.begin.ensures in
    let x = goes_on c.args.self.now s c.take.new.self c.push_reserved.new.self.items c.args.caller call.Take _ c.plain_copy.result nothing_brought c.plain_copy.ensures b.waits c.in_ok-begin.ensures.more tt
    (record { setting = ok.setting; params = ok.params; reply = ok.reply; state = ok.state; store = ok.store })
    (λ t. take_brings (setting st) _ (rules_of st) (state st) c.args.caller nothing_brought)
    c.push_reserved.ensures.items in
    record { public_is = x.public_is; legal = x.legal; state_is = x.state_is; sound = x.sound }

pub returns-clause-called : goal.returns-clause-called
unfolding judge step
returns-clause-called g c =
    let s = c.begin.new.self in let ok = c.in_ok-taking.ensures in let b = c.begin.ensures in let begun = c.in_ok-begin.ensures in let push = c.push_reserved.ensures in
    called (λ (r : Taking). r.reply) c.args.self.now s _ _ c.args.caller call.Take c.plain_copy.result nothing_brought c.plain_copy.ensures
    (record { waits = b.waits; doubles = b.doubles; room = begun.room; more = begun.more })
    (record { setting = ok.setting; params = ok.params; reply = ok.reply; state = ok.state; store = ok.store })
    (record { roll = refl; most = refl; items = push.items; len = push.len; capacity = push.capacity })

pub returns-in_err-taking-clause-free : goal.returns-in_err-taking-clause-free
unfolding judge step
returns-in_err-taking-clause-free g c _ _ none = c.in_err-taking.ensures.free (sym (reply_is c.args.self.now c.begin.new.self c.args.caller call.Take c.begin.ensures.waits) ∙ none)

pub returns-clause-job : goal.returns-clause-job
returns-clause-job g c =
    let s = c.begin.new.self in let st = s.standing in let ok = c.in_ok-taking.ensures in let w = c.begin.ensures.waits in
    rw (← w.standing, ← w.roll) (record {
      job = rw ok.reply ok.job;
      none = λ e. ok.reply ∙ ok.there e;
      circuit = ok.circuit;
      ready = ok.ready;
      free = free_if (setting st) (state st) (store st) c.args.caller c.in_ok-taking.taking.job s.sound.free ok.job ok.circuit;
      honest = λ t. inputs_if st.params (setting st) _ (state st) (store st) c.args.caller c.in_ok-taking.taking.job
          (stands_in s t) ok.job ok.circuit;
    })
