use Rattle.std.proofs.Common.{◌∙◌, refl, arith, option_to_list}
use Rattle.turn_lock.proofs.Keeps.{draws}
use Rattle.turn_lock.proofs.Taking.{pass_at, each_option, drew_sights, Acts, leaves, passed, takes}
use Rattle.turn_lock.proofs.lock.TurnLock.take_turn.Goals as goal

pub fetch_add-ticket-requires : goal.fetch_add-ticket-requires
fetch_add-ticket-requires g c =
    let p = c.args.pass.now in (
      c.requires.lock,
      omega (arith, c.args.self.now.sized.0),
      draws g.V.Kept.fixed g.V.Kept.entries g.V.Kept.number _ _ _ _ _ _ (pass_at p.seat.me.0 p.number p.numbered p.idle p.counts),
    )

pub end_turn-requires-clause-left : goal.end_turn-requires-clause-left
end_turn-requires-clause-left g c κs lives =
    let a : Acts c.args.pass.now c.fetch_add-ticket.new.seat.me c.wait_for.new.seat.me c.take_out-value.result c.act-reply.new.value (option_to_list (g.A.Act.appends c.args.act c.act-reply.result)) = record {
      drew = drew_sights _ _ _ _ c.fetch_add-ticket.ensures.2.2;
      finds = c.wait_for.ensures.found;
      took = c.take_out-value.ensures.value;
      fixed_y = c.act-reply.ensures.fixed;
      entries_y = c.act-reply.ensures.entries;
      signed = each_option _ _ (λ e h. g.met.A.Act.signed _ _ e h ∙ c.requires.number);
    } in
    leaves _ _ _ _ _ _ a _ _ c.take_out-value.ensures.same.2

pub returns-clause-turn : goal.returns-clause-turn
returns-clause-turn g c =
    let a : Acts c.args.pass.now c.fetch_add-ticket.new.seat.me c.wait_for.new.seat.me c.take_out-value.result c.act-reply.new.value (option_to_list (g.A.Act.appends c.args.act c.act-reply.result)) = record {
      drew = drew_sights _ _ _ _ c.fetch_add-ticket.ensures.2.2;
      finds = c.wait_for.ensures.found;
      took = c.take_out-value.ensures.value;
      fixed_y = c.act-reply.ensures.fixed;
      entries_y = c.act-reply.ensures.entries;
      signed = each_option _ _ (λ e h. g.met.A.Act.signed _ _ e h ∙ c.requires.number);
    } in
    takes _ _ _ _ _ _ a _ refl (passed _ _ _ _ _ _ a _ _ _ c.take_out-value.ensures.same.2 c.end_turn.ensures.passed) _ c.act-reply.ensures.says (g.V.Kept.legal _)
