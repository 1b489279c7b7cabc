-- How many instances of each signature were issued, by the entries of a list.
use Rattle.std.specs.Prelude.{ℕ, Bool, if◌then◌else◌, List, [], ◌∷◌}
use Rattle.proto_names.specs.Names.{same}
use Rattle.proto_names.specs.declared.signature.Signature.{Signature}
use Rattle.instance_table.specs.declared.attempts.Attempt.{Attempt}

-- whether an entry is that of a signature
abbrev pub counts : Signature → Attempt → Bool
counts σ a = same a.signature σ

-- the count of the first entry of a signature, and 0 where there is none
unfoldable pub attempts_in : List Attempt → Signature → ℕ
attempts_in [] σ = 0
attempts_in (a ∷ rest) σ = if counts σ a then a.count else attempts_in rest σ
