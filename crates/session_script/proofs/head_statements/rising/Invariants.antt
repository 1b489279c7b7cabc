-- The parties so far, with those that are left, are all.
use Rattle.std.proofs.Common.{◌≡◌, [], drop}
use Rattle.session_script.specs.Heads.{rising}
use Rattle.session_script.proofs.head_statements.rising.Given as goal

abbrev pub invariant-parties : goal.invariant-parties
invariant-parties l = rising l.parties l.present l.last (drop l.p-index l.given) ≡ rising l.parties [] 0 l.given
