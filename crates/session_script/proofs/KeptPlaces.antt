-- What is kept at each place of a script, as an invariant of the places.
use Rattle.std.proofs.Common.{◌≡◌, ℕ, ◌+◌, ◌<◌, ◌≤◌, ◌==◌, Bool, true, false, List, [], length, map, All}
use Rattle.std.specs.Prelude.{⊤}
use Rattle.std.specs.List.{list_any, IsDistinct}
use Rattle.std.specs.Str.{bytes_eq}
use Rattle.circuit_form.specs.Circuits.{owners, has_rot}
use Rattle.session_rules.specs.declared.line.Line.{Line}
use Rattle.session_script.specs.declared.place.Draft.{Draft}
use Rattle.session_script.specs.declared.place.OpenCircuit.{OpenCircuit}
use Rattle.session_script.specs.declared.place.Place.{Place}
use Rattle.session_script.specs.declared.place.Place.TheVariants as place
use Rattle.session_script.specs.Asked.{Numbers, Named}
use Rattle.session_script.specs.CircuitLines.{has_name, is_used}
use Rattle.session_script.specs.Kept.{IsVersion, IsNamed, IsParty, Rising, AreChecked, IsSized, name_of, inputs, is_turned, IsLane, lines, AreLanes}
use Rattle.session_script.proofs.BegunCircuits.{IsBegun}

-- the rotations in these nodes are used
abbrev pub AreUsed : List ℕ → (ℕ → Bool) → Type 0
AreUsed turns rotates = (g : ℕ) → rotates g ≡ true → is_used turns g ≡ true

-- whether some nodes rotate by g
abbrev pub rotates : OpenCircuit → ℕ → Bool
rotates begun g = has_rot g begun.nodes

-- of the version and the numbers
pub record IsHead (version : ℕ) (numbers : Numbers) : Type 0 where
  pub known : IsVersion version
  pub balanced : numbers.balanced ≡ (version == 2)
  pub checked : AreChecked numbers

-- of a script behind its head, where a circuit that isn't ended yet has some inputs
pub record IsKept (version : ℕ) (numbers : Numbers) (present : List ℕ) (circuits : List Named) (inputs_so_far : ℕ) (turns : List ℕ) (inputs_begun : ℕ) : Type 0 where
  pub head : IsHead version numbers
  pub parties : All (IsParty numbers) present
  pub rising : Rising 0 present
  pub few : length circuits ≤ 64
  pub named : All (IsNamed numbers) circuits
  pub sized : All IsSized circuits
  pub distinct : IsDistinct bytes_eq (map name_of circuits)
  pub counted : inputs_so_far ≡ inputs circuits + inputs_begun
  pub few_inputs : inputs_so_far ≤ 1024
  pub few_turns : length turns ≤ 16
  pub used : AreUsed turns (is_turned circuits)

abbrev pub IsDrafted : Draft → ℕ → Type 0
IsDrafted draft inputs_begun = IsKept draft.version draft.frame draft.present draft.circuits draft.inputs draft.turns inputs_begun

-- of a circuit that isn't ended yet
pub record IsOpen (draft : Draft) (begun : OpenCircuit) : Type 0 where
  pub drafted : IsDrafted draft (length (owners begun.nodes))
  pub begins : IsBegun draft.frame begun
  pub room : length draft.circuits < 64
  pub new : list_any (has_name begun.name) draft.circuits ≡ false
  pub used : AreUsed draft.turns (rotates begun)

-- where no lane is written
pub record HasNoLane (lanes : List (List Line)) (lines_so_far : ℕ) : Type 0 where
  pub no_lane : lanes ≡ []
  pub no_line : lines_so_far ≡ 0

-- of the lanes that are written, where one that isn't ended yet has some lines
pub record AreWritten (numbers : Numbers) (lanes : List (List Line)) (lines_so_far lines_begun : ℕ) : Type 0 where
  pub few : length lanes ≤ 8
  pub counted : lines_so_far ≡ lines lanes + lines_begun
  pub few_lines : lines_so_far ≤ 4096
  pub each : All (IsLane numbers) lanes

-- of a lane that isn't ended yet
pub record IsOpenLane (numbers : Numbers) (lanes : List (List Line)) (lines_so_far : ℕ) (lane : List Line) : Type 0 where
  pub written : AreWritten numbers lanes lines_so_far (length lane)
  pub room : length lanes < 8
  pub each : IsLane numbers lane

-- of a place
unfoldable pub Sound : Place → Type 0
Sound place.Start = ⊤
Sound (place.Versioned version) = IsVersion version
Sound (place.Measured version numbers) = IsHead version numbers
Sound (place.Seeded version numbers master) = IsHead version numbers
Sound (place.Circuits draft) = IsDrafted draft 0 × HasNoLane draft.lanes draft.lines
Sound (place.InCircuit draft begun) = IsOpen draft begun × HasNoLane draft.lanes draft.lines
Sound (place.Lanes draft) = IsDrafted draft 0 × AreWritten draft.frame draft.lanes draft.lines 0
Sound (place.InLane draft lane) = IsDrafted draft 0 × IsOpenLane draft.frame draft.lanes draft.lines lane
Sound (place.Closing draft) = IsDrafted draft 0 × AreLanes draft.frame draft.lanes
Sound (place.Finished draft) = IsDrafted draft 0 × AreLanes draft.frame draft.lanes
