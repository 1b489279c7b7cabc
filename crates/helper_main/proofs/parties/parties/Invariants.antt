-- The parties so far are numbered from 1 on, and are those of the script.
use Rattle.std.proofs.Common.{◌≡◌, map, All}
use Rattle.std.specs.List.{range_with_len}
use Rattle.session_script.specs.Scripts.{asked}
use Rattle.helper_main.specs.Parties.{number_of, IsPartyOf}
use Rattle.helper_main.proofs.parties.parties.Given as goal

abbrev pub invariant-parties : goal.invariant-parties
invariant-parties l = record {
  numbers : map number_of l.parties.items ≡ range_with_len 1 l.before;
  all : All (IsPartyOf l.script.params (asked l.script)) l.parties.items;
}
