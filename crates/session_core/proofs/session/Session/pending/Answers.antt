-- The history goes on by the call, and the polynomials stay honest.
use Rattle.std.proofs.Common.{◌∙◌, ap, inl, sym, refl, subst}
use Rattle.session_rules.specs.declared.call.Call.TheVariants as call
use Rattle.session_rules.specs.Deeds.{done, changed}
use Rattle.session_rules.specs.Steps.{judge, step}
use Rattle.session_spec.specs.Stores.{nothing_brought, with_deed, store_done}
use Rattle.session_state.specs.declared.handed.Listing.{Listing}
use Rattle.session_state.specs.Handed.{is_list}
use Rattle.session_core.specs.Handing.{ListsOrKey}
use Rattle.session_core.specs.Calls.{At}
use Rattle.session_core.proofs.Handed.{key_if, fits_if}
use Rattle.session_state.specs.Standings.{setting, state, store}
use Rattle.session_core.proofs.Going.{stands_in, goes_on, called, reply_is}
use Rattle.session_core.proofs.session.Session.pending.Goals as goal

pub invariant_of-self : goal.invariant_of-self
unfolding judge step done changed store_done with_deed
invariant_of-self g c =
    let s = c.begin.new.self in let st = s.standing in let ok = c.in_ok-listing.ensures in let b = c.begin.ensures in
    let x = goes_on c.args.self.now s st c.push_reserved.new.self.items c.args.caller (call.Pending c.args.p) _ c.in_ok-reply.reply nothing_brought c.in_ok-reply.ensures.same b.waits c.in_ok-begin.ensures.more tt
    (record { setting = refl; params = refl; reply = ok.reply; state = refl; store = refl })
    (λ t. tt)
    c.push_reserved.ensures.items in
    record { public_is = x.public_is; legal = x.legal; state_is = x.state_is; sound = x.sound }

pub returns-clause-called : goal.returns-clause-called
unfolding judge step done changed store_done with_deed
returns-clause-called g c =
    let s = c.begin.new.self in let ok = c.in_ok-listing.ensures in let b = c.begin.ensures in let begun = c.in_ok-begin.ensures in let push = c.push_reserved.ensures in
    called (λ (r : Listing). r.reply) c.args.self.now s _ _ c.args.caller (call.Pending c.args.p) c.in_ok-reply.reply nothing_brought c.in_ok-reply.ensures.same
    (record { waits = b.waits; doubles = b.doubles; room = begun.room; more = begun.more })
    (record { setting = refl; params = refl; reply = ok.reply; state = refl; store = refl })
    (record { roll = refl; most = refl; items = push.items; len = push.len; capacity = push.capacity })

pub returns-in_err-listing-clause-free : goal.returns-in_err-listing-clause-free
unfolding judge step
returns-in_err-listing-clause-free g c _ _ = subst (λ r. At ListsOrKey c.args.self.now r) (sym (reply_is c.args.self.now c.begin.new.self c.args.caller (call.Pending c.args.p) c.begin.ensures.waits)) (rw (← c.begin.ensures.waits.standing) c.in_err-listing.ensures.free)

pub returns-in_err-reply-clause-free : goal.returns-in_err-reply-clause-free
unfolding judge step
returns-in_err-reply-clause-free g c _ _ = inl (ap is_list (reply_is c.args.self.now c.begin.new.self c.args.caller (call.Pending c.args.p) c.begin.ensures.waits ∙ sym c.in_ok-listing.ensures.reply) ∙ c.in_err-reply.ensures.free)

pub returns-clause-key : goal.returns-clause-key
returns-clause-key g c =
    let s = c.begin.new.self in let st = s.standing in let key = c.in_ok-listing.ensures.key in let w = c.begin.ensures.waits in
    rw (← w.standing, ← w.roll) (record {
      held = key;
      fits = fits_if st s.log.items c.in_ok-listing.listing.key s.state_is key;
      honest = λ t. key_if st.params (setting st) _ (state st) (store st) c.in_ok-listing.listing.key
          (stands_in s t) key;
    })
