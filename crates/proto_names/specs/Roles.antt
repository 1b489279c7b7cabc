-- What an instance's shares are said of, and the groups that hold the secret one after the other.
use Rattle.std.specs.Prelude.{ℕ, ◌-◌, List, [], ◌∷◌, length}
use Rattle.proto_names.specs.declared.group.Group.{Group}
use Rattle.proto_names.specs.declared.signature.Signature.{Signature}
use Rattle.proto_names.specs.declared.sets.PartySet.{PartySet}
use Rattle.proto_names.specs.declared.instance.Instance.{Instance}

-- what an instance keeps from the call that issues it on, as long as it stands
pub record Role : Type 0 where
  pub signature : Signature
  pub id : ℕ
  pub set : PartySet
  -- the instance of the first round whose second round it is, and 0 for all other signatures
  pub round1 : ℕ
  -- the place of its group
  pub group : ℕ

abbrev pub role_of : Instance → Role
role_of i = record { signature = i.signature; id = i.id; set = i.set; round1 = i.round1; group = i.group }

-- the list of the group to which the parties deal at first, of a threshold and a number of parties
abbrev pub first_groups : ℕ → ℕ → List Group
first_groups threshold parties =
    record { threshold = threshold; parties = parties; dealers = record { bits = 0 } } ∷ []

-- the place of the last group of a list
abbrev pub last_place : List Group → ℕ
last_place groups = length groups - 1
