-- The history goes on by the call, and the polynomials stay honest.
use Rattle.std.proofs.Common.{◌∙◌, ap, refl}
use Rattle.session_rules.specs.declared.call.Call.TheVariants as call
use Rattle.session_rules.specs.Deeds.{done, changed}
use Rattle.session_rules.specs.Steps.{judge, step}
use Rattle.session_spec.specs.Stores.{nothing_brought, with_deed, store_done}
use Rattle.session_core.proofs.Handed.{made_of, polys_of_if}
use Rattle.session_state.specs.declared.handed.Briefing.{Briefing}
use Rattle.session_state.specs.Handed.{is_brief}
use Rattle.session_state.specs.Standings.{setting, state, store}
use Rattle.session_core.proofs.Going.{stands_in, goes_on, called, reply_is}
use Rattle.session_core.proofs.session.Session.brief.Goals as goal

pub invariant_of-self : goal.invariant_of-self
unfolding judge step done changed store_done with_deed
invariant_of-self g c =
    let s = c.begin.new.self in let st = s.standing in let ok = c.in_ok-briefing.ensures in let b = c.begin.ensures in
    let x = goes_on c.args.self.now s st c.push_reserved.new.self.items c.args.caller (call.Brief c.args.id) _ c.plain_copy.result nothing_brought c.plain_copy.ensures b.waits c.in_ok-begin.ensures.more tt
    (record { setting = refl; params = refl; reply = ok.reply; state = refl; store = refl })
    (λ t. tt)
    c.push_reserved.ensures.items in
    record { public_is = x.public_is; legal = x.legal; state_is = x.state_is; sound = x.sound }

pub returns-clause-called : goal.returns-clause-called
unfolding judge step done changed store_done with_deed
returns-clause-called g c =
    let s = c.begin.new.self in let ok = c.in_ok-briefing.ensures in let b = c.begin.ensures in let begun = c.in_ok-begin.ensures in let push = c.push_reserved.ensures in
    called (λ (r : Briefing). r.reply) c.args.self.now s _ _ c.args.caller (call.Brief c.args.id) c.plain_copy.result nothing_brought c.plain_copy.ensures
    (record { waits = b.waits; doubles = b.doubles; room = begun.room; more = begun.more })
    (record { setting = refl; params = refl; reply = ok.reply; state = refl; store = refl })
    (record { roll = refl; most = refl; items = push.items; len = push.len; capacity = push.capacity })

pub returns-in_err-briefing-clause-free : goal.returns-in_err-briefing-clause-free
unfolding judge step
returns-in_err-briefing-clause-free g c _ _ = ap is_brief (reply_is c.args.self.now c.begin.new.self c.args.caller (call.Brief c.args.id) c.begin.ensures.waits) ∙ c.in_err-briefing.ensures.free

pub returns-clause-brief : goal.returns-clause-brief
returns-clause-brief g c =
    let s = c.begin.new.self in let st = s.standing in let ok = c.in_ok-briefing.ensures in let it = c.in_ok-briefing.briefing in let w = c.begin.ensures.waits in
    rw (← w.standing, ← w.roll) (record {
      told = ok.told;
      there = ok.there;
      goes = ok.stands;
      made = made_of st s.log.items c.args.id it.reply it.brief s.sound.free s.state_is ok.reply ok.stands ok.told;
      honest = λ t. polys_of_if st.params (setting st) _ (state st) (store st) c.args.id it.reply it.brief
          (stands_in s t) ok.reply ok.stands ok.told;
    })
