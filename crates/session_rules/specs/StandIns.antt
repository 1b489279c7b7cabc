-- How moves are found out on some instances that stand for all: no rule looks at attempts, nor at void ones, so only
-- the number of a new one has to be told. Used by the planning alone.
use Rattle.std.specs.Prelude.{ℕ, ◌+◌, List, [], ◌∷◌, ◌++◌}
use Rattle.proto_names.specs.Instances.{after_void}
use Rattle.proto_names.specs.declared.signature.Signature.{Signature}
use Rattle.proto_names.specs.declared.sets.PartySet.{PartySet}
use Rattle.proto_names.specs.declared.instance.Instance.{Instance}
use Rattle.proto_names.specs.declared.instance.Stage.TheVariants.{Opened}
use Rattle.session_rules.specs.declared.moves.Move.{Move}
use Rattle.session_rules.specs.declared.moves.Move.TheVariants.{GiveUp, Issue}

-- a new instance behind so many, as if it were the first of its signature
unfoldable pub behind : ℕ → Signature → PartySet → ℕ → Instance
behind issued σ set round1 =
    record {
      id = issued + 1;
      signature = σ;
      set = set;
      attempt = 1;
      sent = record { bits = 0 };
      stage = Opened;
      round1 = round1;
      group = 0;
    }

-- the instances after a move where so many were issued, and how many are issued then
unfoldable pub stand_after : ℕ → List Instance → Move → List Instance
stand_after issued is (GiveUp id by) = after_void id by is
stand_after issued is (Issue σ set round1) = is ++ behind issued σ set round1 ∷ []

unfoldable pub number_after : ℕ → Move → ℕ
number_after issued (GiveUp id by) = issued
number_after issued (Issue σ set round1) = issued + 1
