-- The lines of a report on calls, replies and instances.
use Rattle.std.proofs.Common.{◌≡◌, [], ◌∷◌, codes, refl}
use Rattle.std.specs.Fmt.{digits}
use Rattle.share_spec.specs.Sets.{has, members_to, members}
use Rattle.proto_names.specs.Groups.{is_outside}
use Rattle.proto_names.specs.declared.signature.Signature.TheVariants.{Pk, Rlk1, Rlk2, Rot, Dec}
use Rattle.proto_names.specs.declared.instance.Instance.{Instance}
use Rattle.proto_names.specs.declared.instance.Stage.{Stage}
use Rattle.proto_names.specs.declared.instance.Stage.TheVariants.{Opened, Complete, Void}
use Rattle.session_rules.specs.declared.call.Call.TheVariants as call
use Rattle.session_rules.specs.declared.reply.Reply.TheVariants as reply
use Rattle.event_lines.specs.Lists.{following, by_commas, or_dash}
use Rattle.event_lines.specs.Names.{signature_text, set_text, outside_to, outside_text}
use Rattle.event_lines.specs.Events.{call_text, place_text, owed_text, brief_text, reply_text, entry_text, event_line}
use Rattle.event_lines.specs.Instances.{open_text, stage_text, instance_head, instance_text, instance_line}

pub calls : (call_text (call.Join 1) ≡ codes "join 1") × (call_text (call.Lose 32) ≡ codes "lose 32") × (call_text (call.Pending 2) ≡ codes "pending 2") × (call_text (call.Brief 3) ≡ codes "brief 3")
    × (call_text (call.Deliver 7 2 14) ≡ codes "deliver 7 2 14") × (call_text (call.Input 0 3) ≡ codes "input 0 3") × (call_text call.Take ≡ codes "take") × (call_text (call.Finish 63) ≡ codes "finish 63") × (call_text (call.GiveBack 5) ≡ codes "back 5")
unfolding call_text following digits
calls = (refl, refl, refl, refl, refl, refl, refl, refl, refl)

pub signatures : (signature_text Pk ≡ codes "pk") × (signature_text Rlk1 ≡ codes "rlk1") × (signature_text Rlk2 ≡ codes "rlk2") × (signature_text (Rot 3) ≡ codes "rot3") × (signature_text (Dec 0) ≡ codes "dec0")
unfolding signature_text digits
signatures = (refl, refl, refl, refl, refl)

-- 2147483661 is the set of the parties 1, 3, 4 and 32
pub sets : (set_text 2147483661 ≡ codes "1,3,4,32") × (set_text 2 ≡ codes "2") × (outside_text 2147483661 12 ≡ codes "1,32")
unfolding set_text outside_text outside_to is_outside members members_to has by_commas digits
sets = (refl, refl, refl)

-- what is owed, with a stroke for none
pub lists : (reply_text (reply.List (1 ∷ 12 ∷ []) ((0, 0) ∷ (0, 10) ∷ [])) ≡ codes "list 1,12 0.0,0.10") × (reply_text (reply.List [] []) ≡ codes "list - -") × (reply_text (reply.List [] ((1, 2) ∷ [])) ≡ codes "list - 1.2")
unfolding reply_text owed_text place_text or_dash by_commas digits
lists = (refl, refl, refl)

pub replies_with_numbers : (reply_text (reply.Brief (Rot 3) (record { bits = 5 })) ≡ codes "brief rot3 1,3") × (reply_text (reply.Unknown 4) ≡ codes "unknown 4") × (reply_text (reply.Late 2) ≡ codes "late 2")
    × (reply_text (reply.Shape 14 1) ≡ codes "shape 14 1") × (reply_text (reply.Counted 1) ≡ codes "counted 1") × (reply_text (reply.Job 10) ≡ codes "job 10")
unfolding reply_text brief_text signature_text set_text members members_to has following by_commas digits
replies_with_numbers = (refl, refl, refl, refl, refl, refl)

pub replies : (reply_text reply.Joined ≡ codes "joined") × (reply_text reply.Left ≡ codes "left") × (reply_text reply.Already ≡ codes "already") × (reply_text reply.Absent ≡ codes "absent") × (reply_text reply.Stranger ≡ codes "stranger")
    × (reply_text reply.Repeat ≡ codes "repeat") × (reply_text reply.Completed ≡ codes "completed") × (reply_text reply.NoInput ≡ codes "noinput") × (reply_text reply.NoKey ≡ codes "nokey") × (reply_text reply.Given ≡ codes "given")
    × (reply_text reply.Nothing ≡ codes "nothing") × (reply_text reply.Finished ≡ codes "finished") × (reply_text reply.NotTaken ≡ codes "nottaken") × (reply_text reply.Returned ≡ codes "returned")
unfolding reply_text
replies = (refl, refl, refl, refl, refl, refl, refl, refl, refl, refl, refl, refl, refl, refl)

pub events : event_line (record { caller = 8; call = call.Deliver 1 2 1; reply = reply.Counted 1 }) ≡ codes "event 8 deliver 1 2 1 counted 1\n"
unfolding event_line entry_text call_text reply_text following digits
events = refl

-- ---- instances, by how far they have come; the digest stands for itself

abbrev row : Stage → Instance
row stage = record { id = 12; signature = Dec 0; set = record { bits = 13 }; attempt = 2; sent = record { bits = 4 }; stage = stage; round1 = 0; group = 0 }

pub instances : (instance_line (row Opened) (codes "d") ≡ codes "instance 12 dec0 1,3,4 attempt 2 open 1,4\n") × (instance_line (row Complete) (codes "d") ≡ codes "instance 12 dec0 1,3,4 attempt 2 complete d\n")
    × (instance_line (row (Void 3)) (codes "d") ≡ codes "instance 12 dec0 1,3,4 attempt 2 void by 3\n")
unfolding instance_line instance_text instance_head stage_text open_text signature_text set_text outside_text outside_to is_outside members members_to has by_commas digits
instances = (refl, refl, refl)
