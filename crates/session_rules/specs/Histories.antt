-- Lists of calls with their replies.
use Rattle.std.specs.Prelude.{◌≡◌, List, [], ◌∷◌}
use Rattle.session_rules.specs.declared.call.Entry.{Entry}
use Rattle.session_rules.specs.declared.fixed.Fixed.{Fixed}
use Rattle.session_rules.specs.States.{State, opening}
use Rattle.session_rules.specs.Steps.{step}

-- the state after some calls
unfoldable pub after : Fixed → State → List Entry → State
after f s [] = s
after f s (e ∷ es) = after f (step f s e.caller e.call).1 es

-- the same calls, each with the reply that it has to have
unfoldable pub replayed : Fixed → State → List Entry → List Entry
replayed f s [] = []
replayed f s (e ∷ es) =
    record e { reply = (step f s e.caller e.call).0 } ∷ replayed f (step f s e.caller e.call).1 es

-- a history is legal where each reply is the one that it has to be
abbrev pub IsLegal : Fixed → List Entry → Type 0
IsLegal f es = replayed f (opening f) es ≡ es

-- the state after a history
abbrev pub state_after : Fixed → List Entry → State
state_after f es = after f (opening f) es
