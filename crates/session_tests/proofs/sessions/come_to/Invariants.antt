use Rattle.std.proofs.Common.{◌≡◌}
use Rattle.session_tests.proofs.sessions.come_to.Given as goal

abbrev pub invariant-calls : goal.invariant-calls
invariant-calls g l = record {
  degree : l.session.standing.params.n ≡ 8;
  parties : l.session.standing.params.parties ≡ 3;
}
