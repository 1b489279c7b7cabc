-- The lines of a text, the words of a line, and which lines are skipped.
use Rattle.std.specs.Prelude.{ℕ, ◌-◌, ◌==◌, ◌&&◌, nat_le, Bool, true, not, if◌then◌else◌, List, [], ◌∷◌, length, take, slice_index_or}
use Rattle.std.specs.List.{filter, list_all}
use Rattle.std.specs.Str.{bytes_eq}
use Rattle.session_script.specs.Words.{parts_at}

-- whether a list has no entry
abbrev pub is_empty : List ℕ → Bool
is_empty xs = length xs == 0

-- pieces between line feeds, without the last one where nothing stands in it
unfoldable pub without_end : List (List ℕ) → List (List ℕ)
without_end pieces =
    if is_empty (slice_index_or pieces (length pieces - 1) []) then take (length pieces - 1) pieces else pieces

-- the lines of a text: the last one may lack its line feed, and behind a last line feed there is none
unfoldable pub lines : List ℕ → List (List ℕ)
lines text = without_end (parts_at 10 text)

-- whether a word has a byte
abbrev pub is_word : List ℕ → Bool
is_word piece = not (is_empty piece)

-- the words of a line: the longest runs of bytes other than the space
unfoldable pub words : List ℕ → List (List ℕ)
words line = filter is_word (parts_at 32 line)

-- the word at a place, counted from 0; no bytes where there is none
abbrev pub word_at : List (List ℕ) → ℕ → List ℕ
word_at words k = slice_index_or words k []

-- whether the first word is this one
abbrev pub leads : List ℕ → List (List ℕ) → Bool
leads text words = bytes_eq (word_at words 0) text

-- whether a byte may stand in a script beside the line feed
abbrev pub is_plain : ℕ → Bool
is_plain b = nat_le 32 b && nat_le b 126

-- whether all bytes may
abbrev pub all_plain : List ℕ → Bool
all_plain line = list_all is_plain line

-- whether a line of such words is skipped: there is none, or the first begins with `#`
unfoldable pub is_skipped : List (List ℕ) → Bool
is_skipped [] = true
is_skipped (word ∷ rest) = slice_index_or word 0 0 == 35
