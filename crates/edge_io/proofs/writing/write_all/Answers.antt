-- What a write took comes behind what was taken before.
use Rattle.std.proofs.Common.{◌≡◌, ℕ, ◌+◌, ◌-◌, List, ◌++◌, length, take, drop, arith, ◌∙◌}
use Rattle.std.proofs.Math.Seq.{take-add}
use Rattle.std.proofs.lemmas.List.{take_rest}
use Rattle.std.proofs.lemmas.Grind.{common_steps}
use Rattle.std.proofs.KnownBytes.{Appends-trans}
use Rattle.edge_io.proofs.writing.write_all.Goals as goal

-- the first i, and then the first n of the others
take-piece : (i n : ℕ) (xs : List ℕ) → take (i + n) xs ≡ take i xs ++ take n (take (length xs - i) (drop i xs))
take-piece i n xs = rw (take_rest xs i) (take-add i n xs)

pub pieces-preserved : goal.pieces-preserved
pieces-preserved g c =
    let more = Appends-trans _ _ _ _ _ c.pieces.invariant.1 c.in-Ok.ensures.bytes in
    (grind (arith, common_steps), rw take-piece more, c.in-Ok.ensures.none_hidden ∙ c.pieces.invariant.2)
