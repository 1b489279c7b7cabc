-- The lines that tell what was called and what the reply was.
use Rattle.std.specs.Prelude.{ℕ, List, [], ◌∷◌, ◌++◌, map, codes, decimal}
use Rattle.proto_names.specs.declared.signature.Signature.{Signature}
use Rattle.session_rules.specs.declared.call.Call.{Call}
use Rattle.session_rules.specs.declared.call.Call.TheVariants as call
use Rattle.session_rules.specs.declared.call.Entry.{Entry}
use Rattle.session_rules.specs.declared.reply.Reply.{Reply}
use Rattle.session_rules.specs.declared.reply.Reply.TheVariants as reply
use Rattle.event_lines.specs.Lists.{following, or_dash}
use Rattle.event_lines.specs.Names.{signature_text, set_text}

-- a call: its word, and its numbers in the order of its fields
unfoldable pub call_text : Call → List ℕ
call_text (call.Join p) = codes "join" ++ following (p ∷ [])
call_text (call.Lose p) = codes "lose" ++ following (p ∷ [])
call_text (call.Pending p) = codes "pending" ++ following (p ∷ [])
call_text (call.Brief id) = codes "brief" ++ following (id ∷ [])
call_text (call.Deliver id p rows) = codes "deliver" ++ following (id ∷ p ∷ rows ∷ [])
call_text (call.Input circuit input) = codes "input" ++ following (circuit ∷ input ∷ [])
call_text call.Take = codes "take"
call_text (call.Finish circuit) = codes "finish" ++ following (circuit ∷ [])
call_text (call.GiveBack circuit) = codes "back" ++ following (circuit ∷ [])

-- the place of an input: the circuit and the input
unfoldable pub place_text : ℕ × ℕ → List ℕ
place_text (c, k) = decimal c ++ codes "." ++ decimal k

-- what a party owes: the numbers of instances, and the places of inputs
unfoldable pub owed_text : List ℕ → List (ℕ × ℕ) → List ℕ
owed_text ids inputs = codes "list " ++ or_dash (map decimal ids) ++ codes " " ++ or_dash (map place_text inputs)

-- what an instance is: its signature, and the parties that take part
unfoldable pub brief_text : Signature → ℕ → List ℕ
brief_text σ set = codes "brief " ++ signature_text σ ++ codes " " ++ set_text set

-- a reply
unfoldable pub reply_text : Reply → List ℕ
reply_text reply.Joined = codes "joined"
reply_text reply.Left = codes "left"
reply_text reply.Already = codes "already"
reply_text reply.Absent = codes "absent"
reply_text (reply.List ids inputs) = owed_text ids inputs
reply_text (reply.Brief σ set) = brief_text σ set.bits
reply_text (reply.Unknown issued) = codes "unknown" ++ following (issued ∷ [])
reply_text (reply.Late by) = codes "late" ++ following (by ∷ [])
reply_text reply.Stranger = codes "stranger"
reply_text reply.Repeat = codes "repeat"
reply_text (reply.Shape want got) = codes "shape" ++ following (want ∷ got ∷ [])
reply_text (reply.Counted missing) = codes "counted" ++ following (missing ∷ [])
reply_text reply.Completed = codes "completed"
reply_text reply.NoInput = codes "noinput"
reply_text reply.NoKey = codes "nokey"
reply_text reply.Given = codes "given"
reply_text (reply.Job circuit) = codes "job" ++ following (circuit ∷ [])
reply_text reply.Nothing = codes "nothing"
reply_text reply.Finished = codes "finished"
reply_text reply.NotTaken = codes "nottaken"
reply_text reply.Returned = codes "returned"

-- an entry of the log: `CALLER CALL REPLY`
unfoldable pub entry_text : Entry → List ℕ
entry_text e = decimal e.caller ++ codes " " ++ call_text e.call ++ codes " " ++ reply_text e.reply

-- its line: `event CALLER CALL REPLY`
unfoldable pub event_line : Entry → List ℕ
event_line e = codes "event " ++ entry_text e ++ codes "\n"
