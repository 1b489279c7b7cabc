use Rattle.std.proofs.Common.{◌≡◌, sym, subst, refl, ℕ, ◌<◌, List, [], length, arith}
use Rattle.std.proofs.lemmas.List.{append-nil}
use Rattle.party_roll.specs.declared.roll.Roll.{Ghosts}
use Rattle.session_rules.specs.declared.call.Entry.{Entry}
use Rattle.session_core.specs.declared.session.Session.{Session}
use Rattle.session_core.specs.declared.stop.Stop.TheVariants.{NoMemory}
use Rattle.lane_workers.specs.Desks.{Unanswered, session_view}
use Rattle.lane_tests.proofs.failing.FailingDesk.finish.Goals as goal

-- a session that is left as it is has not answered, for want of memory where its log isn't full
module _ {R : Type 0} {K : Ghosts R} where
  unanswered : (s : Session R K) (most : ℕ) → most ≡ s.max_calls → length s.log.items < most → Unanswered (session_view s) (session_view s) NoMemory
  unanswered s most same less = record {
    others = [];
    are = record { strange = refl; none = λ _. refl };
    seen = sym (append-nil s.log.items);
    mine = refl;
    spent = (λ e. cc, λ full. absurd (omega (arith, same, less, full)));
  }

pub returns-then-log-self : goal.returns-then-log-self
returns-then-log-self c = record {
  turned = record {
    same = refl;
    answered = tt;
    unanswered = unanswered c.args.self.now.session c.args.self.now.most c.args.self.now.most_is (subst (λ (es : List Entry). length es < c.args.self.now.most) c.log.ensures c.if-log-self.true);
  };
}
