-- The lines that tell how far each instance has come.
use Rattle.std.specs.Prelude.{ℕ, List, ◌++◌, codes, decimal}
use Rattle.proto_names.specs.declared.instance.Instance.{Instance}
use Rattle.proto_names.specs.declared.instance.Stage.TheVariants.{Opened, Complete, Void}
use Rattle.proto_names.specs.declared.instance.Stage.{Stage}
use Rattle.event_lines.specs.Names.{signature_text, set_text, outside_text}

-- those that haven't sent
unfoldable pub open_text : Instance → List ℕ
open_text i = codes "open " ++ outside_text i.set.bits i.sent.bits

-- how far it has come: with the digest of its sums, the party that was lost, or those that haven't sent
unfoldable pub stage_text : Instance → Stage → List ℕ → List ℕ
stage_text i Opened digest = open_text i
stage_text i Complete digest = codes "complete " ++ digest
stage_text i (Void by) digest = codes "void by " ++ decimal by

-- which it is: `ID SIG SET attempt A`
unfoldable pub instance_head : Instance → List ℕ
instance_head i =
    decimal i.id ++ codes " " ++ signature_text i.signature ++ codes " " ++ set_text i.set.bits
    ++ codes " attempt " ++ decimal i.attempt

-- an instance, with the digest of its sums: `ID SIG SET attempt A STAGE`
unfoldable pub instance_text : Instance → List ℕ → List ℕ
instance_text i digest = instance_head i ++ codes " " ++ stage_text i i.stage digest

-- its line: `instance ID SIG SET attempt A STAGE`
unfoldable pub instance_line : Instance → List ℕ → List ℕ
instance_line i digest = codes "instance " ++ instance_text i digest ++ codes "\n"
