-- What the rules of issue do after a call, planned before anything is changed.
use Rattle.std.specs.Prelude.{◌≡◌, ℕ, ◌+◌, List, [], ◌∷◌, length, map, slice_set, All, Option, Some, None, true, ⊤}
use Rattle.std.specs.List.{range_with_len, flat_map, Contains}
use Rattle.std.specs.declared.alloc.Global.{Global}
use Rattle.std.specs.declared.sync.Arc.{Arc}
use Rattle.ring_spec.specs.Pairs.{Cipher}
use Rattle.param_set.specs.declared.params.Params.{Params}
use Rattle.proto_names.specs.Instances.{is_done}
use Rattle.proto_names.specs.declared.signature.Signature.TheVariants.{Rlk1, Rlk2, Dec}
use Rattle.proto_names.specs.declared.instance.Instance.{Instance}
use Rattle.proto_names.specs.Roles.{first_groups}
use Rattle.participants.specs.Live.{live_ones}
use Rattle.instance_table.specs.Tables.{no_sums, stands}
use Rattle.instance_table.specs.declared.brief.Brief.{Brief}
use Rattle.session_rules.specs.declared.moves.Move.{Move}
use Rattle.session_rules.specs.declared.moves.Move.TheVariants.{GiveUp, Issue}
use Rattle.session_rules.specs.declared.fixed.Fixed.{Fixed}
use Rattle.session_rules.specs.States.{State}
use Rattle.session_rules.specs.Issues.{instances_after, moves}
use Rattle.session_spec.specs.Stores.{Store, polys_by}
use Rattle.session_state.specs.Parts.{store_by}
use Rattle.session_state.specs.declared.issuing.Fresh.{Fresh}
use Rattle.session_state.specs.declared.issuing.Step.{Step}
use Rattle.session_state.specs.declared.issuing.Step.TheVariants.{GivesUp, Issues}

-- ---- the parts of a step

-- the move that it makes
abbrev pub move_of : Step → Move
move_of (GivesUp id by) = GiveUp id by
move_of (Issues fresh) = Issue fresh.signature fresh.brief.value.set fresh.brief.value.round1

-- the instance that it issues, if it issues one; all that steps issue
abbrev pub issued_by : Step → List Fresh
issued_by (GivesUp id by) = []
issued_by (Issues fresh) = fresh ∷ []

unfoldable pub issued : List Step → List Fresh
issued steps = flat_map issued_by steps

-- ---- the parts of an instance that is to be issued

-- the number and the polynomials that its parties are told
abbrev pub id_told : Fresh → ℕ
id_told fresh = fresh.brief.value.id

abbrev pub polys_told : Fresh → List (List ℕ)
polys_told fresh = fresh.brief.value.polys

-- what is put into the table
abbrev pub brief_of : Fresh → Arc Brief Global
brief_of fresh = fresh.brief

abbrev pub sums_of : Fresh → List (List ℕ)
sums_of fresh = fresh.sums

-- ---- what they have to be

-- the outputs, where that of circuit c may be a new one, and the sums, where those at a place may be new ones
abbrev pub with_made : List (Option Cipher) → ℕ → Option Cipher → List (Option Cipher)
with_made outputs c None = outputs
with_made outputs c (Some ct) = slice_set outputs c (Some ct)

abbrev pub with_sums : List (List (List ℕ)) → ℕ → Option (List (List ℕ)) → List (List (List ℕ))
with_sums sums place None = sums
with_sums sums place (Some rows) = slice_set sums place rows

-- what parties are told is taken from: the sums of the instances, and the circuits' outputs
pub record Source : Type 0 where
  pub instances : List Instance
  pub sums : List (List (List ℕ))
  pub outputs : List (Option Cipher)

abbrev pub store_of : Source → Store
store_of from = store_by [] from.sums [] from.outputs []

-- what the parties of an instance are told
abbrev pub polys_due : Store → Fresh → List (List ℕ)
polys_due h fresh = polys_by h fresh.signature fresh.brief.value.round1

-- its brief has its signature and the one group, and no share is added to its sums
pub record IsFresh (p : Params) (fresh : Fresh) : Type 0 where
  pub signature : fresh.brief.value.signature ≡ fresh.signature
  pub groups : fresh.brief.value.groups.value ≡ first_groups p.threshold p.parties
  pub sums : fresh.sums ≡ no_sums p fresh.signature

-- ---- moves

-- a move that issues the decryption of circuit c, or a second round behind a first one
abbrev pub Decrypts : Move → ℕ → Type 0
Decrypts (GiveUp id by) c = ⊥
Decrypts (Issue σ set round1) c = σ ≡ Dec c

abbrev pub Follows : Move → ℕ → Type 0
Follows (GiveUp id by) first = ⊥
Follows (Issue σ set round1) first = (σ ≡ Rlk2) × (round1 ≡ first)

-- each first round that is complete stands among these
abbrev pub FirstsStand : List Instance → List Instance → Type 0
FirstsStand is now = (i : Instance) → Contains now i → is_done Rlk1 i ≡ true → stands is i.id ≡ true

-- all instances of which these are the live ones, and there are so many: complete first rounds stand in a list
pub record HasAll (is live : List Instance) (count : ℕ) : Type 0 where
  pub all : List Instance
  pub alive : live ≡ live_ones all
  pub number : count ≡ length all
  pub firsts : FirstsStand is all

-- what moves give up stands then, move after move
abbrev pub MayMove : List Instance → Move → Type 0
MayMove is (GiveUp id by) = stands is id ≡ true
MayMove is (Issue σ set round1) = ⊤

unfoldable pub CanMove : List Instance → List Move → Type 0
CanMove is [] = ⊤
CanMove is (m ∷ ms) = MayMove is m × CanMove (instances_after is m) ms

-- ---- a plan

-- what the rules of issue do in a state, with what is told from a store: numbers go to the instances that are issued
pub record IsPlanned (p : Params) (f : Fixed) (s : State) (h : Store) (steps : List Step) : Type 0 where
  pub moves : map move_of steps ≡ moves f s
  pub ids : map id_told (issued steps) ≡ range_with_len (length s.instances + 1) (length (issued steps))
  pub polys : map polys_told (issued steps) ≡ map (polys_due h) (issued steps)
  pub fresh : All (IsFresh p) (issued steps)
