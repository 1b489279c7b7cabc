-- The checks of a statement, one after the other in the order of their reasons, and its numbers.
use Rattle.std.specs.Prelude.{◌≡◌, ℕ, ◌==◌, ◌&&◌, nat_le, Bool, if◌then◌else◌, List, [], ◌∷◌, ◌++◌, length, Result, Ok, Err, ⊤}
use Rattle.std.specs.Option.{ok_or}
use Rattle.session_script.specs.declared.reason.Reason.{Reason}
use Rattle.session_script.specs.declared.reason.Reason.TheVariants as reason
use Rattle.session_script.specs.declared.reason.Fault.{Fault}
use Rattle.session_script.specs.declared.reason.Fault.TheVariants as fault
use Rattle.session_script.specs.Words.{number}
use Rattle.session_script.specs.Lines.{word_at, leads}
use Rattle.session_script.specs.Asked.{Numbers}

-- one check, and what follows if it passed
infixl 10 ◌>>=◌
abbrev pub ◌>>=◌ : {A B : Type 0} → Result A Reason → (A → Result B Reason) → Result B Reason
(Ok x) >>= f = f x
(Err r) >>= f = Err r

-- a check without a value: the reason, unless the test holds
abbrev pub unless : Bool → Reason → Result (Unit {0}) Reason
unless test r = if test then Ok tt else Err r

-- a fault is the reason that is said; want of memory alone is free
abbrev pub IsFaultOf : {A : Type 0} → Result A Reason → Fault → Type 0
IsFaultOf said (fault.Refused r) = said ≡ Err r
IsFaultOf said fault.NoMemory = ⊤

-- what a function answers is what is said, but for want of memory
abbrev pub Follows : {A : Type 0} → Result A Reason → Result A Fault → Type 0
Follows said (Ok x) = said ≡ Ok x
Follows said (Err e) = IsFaultOf said e

-- the same of a function that answers nothing, and leaves x
abbrev pub Leaves : {A : Type 0} → Result A Reason → A → Result (Unit {0}) Fault → Type 0
Leaves said x (Ok _) = said ≡ Ok x
Leaves said x (Err e) = IsFaultOf said e

-- whether there are so many words, and this one leads
abbrev pub is_statement : List ℕ → ℕ → List (List ℕ) → Bool
is_statement text count words = leads text words && (length words == count)

-- the number that the word at a place spells
abbrev pub number_at : List (List ℕ) → ℕ → Result ℕ Reason
number_at words k = ok_or (number (word_at words k)) reason.Number

-- these numbers, and behind them those that all words spell
unfoldable pub numbers_behind : List ℕ → List (List ℕ) → Result (List ℕ) Reason
numbers_behind xs [] = Ok xs
numbers_behind xs (word ∷ rest) = do
  x ← ok_or (number word) reason.Number
  numbers_behind (xs ++ x ∷ []) rest

-- the number of a party
abbrev pub party : Numbers → ℕ → Result ℕ Reason
party numbers p = if nat_le 1 p && nat_le p numbers.parties then Ok p else Err reason.Party
