-- Of how many rows honest shares are, and that each is a polynomial of the ring.
use Rattle.std.specs.Prelude.{◌≡◌, ℕ, ◌*◌, ◌<◌, List, length, All}
use Rattle.ring_spec.specs.Ring.{IsPoly}
use Rattle.gadget_spec.specs.Digits.{Gadget}
use Rattle.key_spec.specs.Rotations.{honest_rotation}
use Rattle.key_spec.specs.Relinearisation.{honest_first_round, honest_second_round}

-- a share of so many rows, all of the ring
pub record IsShare (q n rows : ℕ) (share : List (List ℕ)) : Type 0 where
  pub entries : length share ≡ rows
  pub fit : All (IsPoly q n) share

-- that of a rotation has a row for each row of the gadget
abbrev pub RotationSharesFit : Type 0
RotationSharesFit =
    (q n b e id : ℕ) (g : Gadget) (public seed part : List ℕ) → 0 < q
    → IsShare q n g.rows (honest_rotation q n g b e public seed id part)

-- those of both rounds have two
abbrev pub FirstSharesFit : Type 0
FirstSharesFit =
    (q n b id : ℕ) (g : Gadget) (public seed part : List ℕ) → 0 < q
    → IsShare q n (2 * g.rows) (honest_first_round q n g b public seed id part)

abbrev pub SecondSharesFit : Type 0
SecondSharesFit =
    (q n b first id : ℕ) (g : Gadget) (seed part : List ℕ) (sums : List (List ℕ)) → 0 < q
    → IsShare q n (2 * g.rows) (honest_second_round q n g b seed first id sums part)
