-- The order of the statements of an accepted text, by their first words.
use Rattle.std.specs.Prelude.{◌≡◌, ℕ, Bool, true, not, ◌⊎◌, List, [], ◌∷◌, ◌++◌, map, filter, All, codes}
use Rattle.std.specs.List.{list_all, list_any, flat_map}
use Rattle.session_script.specs.Lines.{lines, words, leads, is_skipped}

-- ---- the statements of a text

-- the words of a line
abbrev pub Statement : Type 0
Statement = List (List ℕ)

abbrev pub is_stated : Statement → Bool
is_stated words = not (is_skipped words)

-- the words of each line that isn't skipped
unfoldable pub statements : List ℕ → List Statement
statements text = filter is_stated (map words (lines text))

-- ---- sections, each with what stands behind it

-- one statement that begins with a word
pub record Single (word : List ℕ) (Behind : List Statement → Type 0) (all : List Statement) : Type 0 where
  pub first : Statement
  pub rest : List Statement
  pub whole : all ≡ first ∷ rest
  pub begins : leads word first ≡ true
  pub behind : Behind rest

-- none or one of them
abbrev pub Perhaps : List ℕ → (List Statement → Type 0) → List Statement → Type 0
Perhaps word Behind all = Single word Behind all ⊎ Behind all

-- statements that pass a test, up to the first that begins with `end`
pub record Ended (inner : Statement → Bool) (Behind : List Statement → Type 0) (all : List Statement) : Type 0 where
  pub inside : List Statement
  pub last : Statement
  pub rest : List Statement
  pub whole : all ≡ inside ++ last ∷ rest
  pub each : list_all inner inside ≡ true
  pub ends : leads (codes "end") last ≡ true
  pub behind : Behind rest

-- nothing
abbrev pub Nothing : List Statement → Type 0
Nothing all = all ≡ []

-- a block: a statement that begins with a word, then some that pass a test, up to an `end`
abbrev pub IsBlock : List ℕ → (Statement → Bool) → List Statement → Type 0
IsBlock word inner block = Single word (Ended inner Nothing) block

-- blocks one after the other
abbrev pub joined : List (List Statement) → List Statement
joined blocks = flat_map (λ block. block) blocks

-- none or more blocks
pub record Blocks (word : List ℕ) (inner : Statement → Bool) (Behind : List Statement → Type 0) (all : List Statement) : Type 0 where
  pub blocks : List (List Statement)
  pub rest : List Statement
  pub whole : all ≡ joined blocks ++ rest
  pub each : All (IsBlock word inner) blocks
  pub behind : Behind rest

-- ---- the sections of a script

-- the words with which a node of a circuit begins, and those with which a line of a lane does
unfoldable pub node_words : List (List ℕ)
node_words = codes "input" ∷ codes "const" ∷ codes "add" ∷ codes "sub" ∷ codes "neg" ∷ codes "mul" ∷ codes "rot" ∷ []

unfoldable pub lane_words : List (List ℕ)
lane_words = codes "join" ∷ codes "lose" ∷ codes "send" ∷ codes "hold" ∷ codes "give" ∷ codes "work" ∷ codes "quit" ∷ []

abbrev pub begins : Statement → List ℕ → Bool
begins words word = leads word words

abbrev pub is_node : Statement → Bool
is_node words = list_any (begins words) node_words

abbrev pub is_lane_line : Statement → Bool
is_lane_line words = list_any (begins words) lane_words

-- lanes, perhaps workers, and the last statement
abbrev pub AreLanesOn : List Statement → Type 0
AreLanesOn all = Blocks (codes "lane") is_lane_line (Perhaps (codes "workers") (Single (codes "done") Nothing)) all

-- circuits, and what stands behind them
abbrev pub AreCircuitsOn : List Statement → Type 0
AreCircuitsOn all = Blocks (codes "circuit") is_node AreLanesOn all

-- the version, the parameters, the seed, those who are present, circuits, lanes, perhaps workers, the end
abbrev pub AreSections : List Statement → Type 0
AreSections all = Single (codes "helium") (Single (codes "params") (Single (codes "seed") (Single (codes "present") AreCircuitsOn))) all
