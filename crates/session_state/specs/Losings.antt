-- The instances that are void once a party is lost, found out one by one.
use Rattle.std.specs.Prelude.{ℕ, Bool, false, not, nat_eq, ◌&&◌, ◌||◌, if◌then◌else◌, List, Option, Some, None}
use Rattle.std.specs.List.{find}
use Rattle.std.specs.Option.{option_map}
use Rattle.proto_names.specs.Names.{same}
use Rattle.proto_names.specs.Instances.{lacks}
use Rattle.proto_names.specs.declared.signature.Signature.TheVariants.{Rlk2}
use Rattle.proto_names.specs.declared.instance.Instance.{Instance}
use Rattle.proto_names.specs.declared.instance.Stage.TheVariants.{Void}

-- a second round that lacks a party's share, and the number of its first round
abbrev pub lacks_second : ℕ → Instance → Bool
lacks_second p i = same i.signature Rlk2 && lacks p i

abbrev pub round1_of : Instance → ℕ
round1_of i = i.round1

unfoldable pub first_lost : ℕ → List Instance → Option ℕ
first_lost p is = option_map round1_of (find (lacks_second p) is)

-- an instance once the party is lost: void where it lacks the party's share, or has this number; else it stays
abbrev pub has_number : Option ℕ → Instance → Bool
has_number None i = false
has_number (Some id) i = nat_eq i.id id

abbrev pub fails : ℕ → Option ℕ → Instance → Bool
fails p first i = lacks p i || has_number first i

abbrev pub stays : ℕ → Option ℕ → Instance → Bool
stays p first i = not (fails p first i)

abbrev pub without : ℕ → Option ℕ → Instance → Instance
without p first i = if fails p first i then record i { stage = Void p } else i
