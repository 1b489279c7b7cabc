-- The parties of a script, as those that act in its session.
use Rattle.std.specs.Prelude.{ℕ, true}
use Rattle.draw_spec.specs.Streams.{party_seed}
use Rattle.param_set.specs.declared.params.Params.{Params}
use Rattle.party_roll.specs.declared.seed_party.SeedParty.{SeedParty}
use Rattle.party_roll.specs.Seeds.{seeds_of}
use Rattle.session_script.specs.Asked.{Asked}
use Rattle.run_report.specs.Reports.{setting_asked, seeds_asked}
use Rattle.lane_workers.specs.Acting.{CanAct, IsHonestParty}

abbrev pub number_of : SeedParty → ℕ
number_of party = party.number

-- it can act in the session of a script, and does so honestly, with the script's values
pub record IsPartyOf (p : Params) (a : Asked) (party : SeedParty) : Type 0 where
  pub able : CanAct p (setting_asked a) party.params party.number party.values
  pub honest : IsHonestParty (setting_asked a) (seeds_asked a) true (party_seed party.roll.master 0) (seeds_of party.roll.master party.params.parties) party.number party.values
