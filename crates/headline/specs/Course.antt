-- Whose entries a history has, and in which order.
use Rattle.std.specs.Prelude.{List}
use Rattle.session_rules.specs.declared.call.Entry.{Entry}
use Rattle.session_rules.specs.Courses.{IsSerial}
use Rattle.session_script.specs.Asked.{Asked}
use Rattle.headline.specs.Asked.{rules_asked}

-- the serial course: caller 0 alone has those that are present join, follows lane after lane, each with a hand
-- of its own, and settles the session
pub data Course : Type 0 where
  serial : Course

-- the entries keep a course of a script
abbrev pub Keeps : Course → Asked → List Entry → Type 0
Keeps serial a es = IsSerial (rules_asked a) a.present a.lanes es
