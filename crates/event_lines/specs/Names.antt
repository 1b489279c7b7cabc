-- The texts of signatures and of sets of parties.
use Rattle.std.specs.Prelude.{ℕ, List, ◌++◌, map, filter, codes, decimal}
use Rattle.std.specs.List.{range_with_len}
use Rattle.share_spec.specs.Sets.{members}
use Rattle.proto_names.specs.Groups.{is_outside}
use Rattle.proto_names.specs.declared.signature.Signature.{Signature}
use Rattle.proto_names.specs.declared.signature.Signature.TheVariants.{Pk, Rlk1, Rlk2, Rot, Dec}
use Rattle.event_lines.specs.Lists.{by_commas}

-- a signature: the protocol, with the g of a rotation or the number of a circuit directly behind it
unfoldable pub signature_text : Signature → List ℕ
signature_text Pk = codes "pk"
signature_text Rlk1 = codes "rlk1"
signature_text Rlk2 = codes "rlk2"
signature_text (Rot g) = codes "rot" ++ decimal g
signature_text (Dec circuit) = codes "dec" ++ decimal circuit

-- some parties, one comma between each and the next
abbrev pub parties_text : List ℕ → List ℕ
parties_text ps = by_commas (map decimal ps)

-- a set of parties: its members, rising
unfoldable pub set_text : ℕ → List ℕ
set_text set = parties_text (members set)

-- the members of a set that aren't in another, among the parties 1 to n, rising
unfoldable pub outside_to : ℕ → ℕ → ℕ → List ℕ
outside_to n set other = filter (is_outside set other) (range_with_len 1 n)

-- all of them
unfoldable pub outside_text : ℕ → ℕ → List ℕ
outside_text set other = parties_text (outside_to 32 set other)
