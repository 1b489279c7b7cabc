-- What becomes of instances: they are issued, have shares counted, and are given up.
use Rattle.std.specs.Prelude.{ℕ, ◌+◌, ◌-◌, Bool, not, nat_eq, ◌&&◌, if◌then◌else◌, List, [], ◌∷◌, ◌++◌, length, map, filter, Option, None}
use Rattle.std.specs.List.{slice_get, count_by}
use Rattle.share_spec.specs.Sets.{has}
use Rattle.proto_names.specs.Names.{same, is_opened, is_complete, is_void}
use Rattle.proto_names.specs.Groups.{with_party, number_outside}
use Rattle.proto_names.specs.declared.signature.Signature.{Signature}
use Rattle.proto_names.specs.declared.sets.PartySet.{PartySet}
use Rattle.proto_names.specs.declared.instance.Instance.{Instance}
use Rattle.proto_names.specs.declared.instance.Stage.TheVariants.{Opened, Complete, Void}

-- ---- in a list of instances the one with number i is the i-th

-- the instance with a number, if that many were issued
unfoldable pub instance : List Instance → ℕ → Option Instance
instance is id = if nat_eq id 0 then None else slice_get is (id - 1)

-- whether an instance has a signature
abbrev pub is_of : Signature → Instance → Bool
is_of σ i = same i.signature σ

-- whether one of a signature is opened or complete; and whether it is complete
unfoldable pub lives : Signature → Instance → Bool
lives σ i = is_of σ i && not (is_void i.stage)

unfoldable pub is_done : Signature → Instance → Bool
is_done σ i = is_of σ i && is_complete i.stage

-- ---- issued

-- a new instance, behind others: its number is the next one, its attempt one more than those of its
-- signature, and nobody has sent; it is for the group at a place
unfoldable pub fresh : List Instance → Signature → PartySet → ℕ → ℕ → Instance
fresh is σ set round1 group =
    record {
      id = length is + 1;
      signature = σ;
      set = set;
      attempt = count_by (is_of σ) is + 1;
      sent = record { bits = 0 };
      stage = Opened;
      round1 = round1;
      group = group;
    }

abbrev pub with_fresh : List Instance → Signature → PartySet → ℕ → ℕ → List Instance
with_fresh is σ set round1 group = is ++ fresh is σ set round1 group ∷ []

-- ---- shares

-- it is opened and lacks the share of a party that takes part
unfoldable pub lacks : ℕ → Instance → Bool
lacks p i = is_opened i.stage && has i.set.bits p && not (has i.sent.bits p)

-- how many shares are missing once the party's is counted
unfoldable pub missing : ℕ → Instance → ℕ
missing p i = number_outside i.set.bits (with_party i.sent.bits p)

-- the instance with one more share; it is complete where that was the last
unfoldable pub with_share : ℕ → Instance → Instance
with_share p i =
    record i {
      sent = record { bits = with_party i.sent.bits p };
      stage = if nat_eq (missing p i) 0 then Complete else Opened;
    }

-- that of one number alone
abbrev pub counted_at : ℕ → ℕ → Instance → Instance
counted_at id p i = if nat_eq i.id id then with_share p i else i

unfoldable pub after_share : ℕ → ℕ → List Instance → List Instance
after_share id p is = map (counted_at id p) is

-- ---- given up

-- that of one number
abbrev pub given_up : ℕ → ℕ → Instance → Instance
given_up id by i = if nat_eq i.id id then record i { stage = Void by } else i

unfoldable pub after_void : ℕ → ℕ → List Instance → List Instance
after_void id by is = map (given_up id by) is

-- those that lack a party's share
abbrev pub lost_by : ℕ → Instance → Instance
lost_by p i = if lacks p i then record i { stage = Void p } else i

unfoldable pub after_lost : ℕ → List Instance → List Instance
after_lost p is = map (lost_by p) is

-- the numbers of those that lack a party's share, rising
abbrev pub id_of : Instance → ℕ
id_of i = i.id

unfoldable pub owed_shares : ℕ → List Instance → List ℕ
owed_shares p is = map id_of (filter (lacks p) is)
