-- The circuits of the script keep what a session asks of circuits, and are its setting.
use Rattle.std.proofs.Common.{◌∙◌, ap, refl}
use Rattle.session_script.specs.Scripts.{asked}
use Rattle.helper_main.proofs.Session.{if_ok, keeps, free, few, told, setting_is, modest}
use Rattle.helper_main.proofs.report.opened.Goals as goal

pub new-requires-clause-keep : goal.new-requires-clause-keep
new-requires-clause-keep c =
    let a = asked c.args.script.now in
    keeps a c.in_ok-try_clone.field-0.value.params c.args.script.now.params c.in_ok-circuits.circuits refl (ap (λ z. z.params) c.in_ok-try_clone.ensures ∙ c.requires.ring) c.requires.accepted.named c.in_ok-circuits.ensures

pub new-requires-clause-free : goal.new-requires-clause-free
new-requires-clause-free c = free (asked c.args.script.now) c.in_ok-circuits.circuits c.requires.free c.in_ok-circuits.ensures

pub new-requires-clause-few : goal.new-requires-clause-few
new-requires-clause-few c = few (asked c.args.script.now) c.in_ok-circuits.circuits c.in_ok-circuits.ensures c.requires.accepted.few

pub new-requires-clause-values : goal.new-requires-clause-values
new-requires-clause-values c = λ _.
    let a = asked c.args.script.now in
    told a c.in_ok-try_clone.field-0.value.params c.args.script.now.params c.in_ok-circuits.circuits refl (ap (λ z. z.params) c.in_ok-try_clone.ensures ∙ c.requires.ring) c.requires.accepted.named c.in_ok-circuits.ensures

pub new-requires-clause-modest : goal.new-requires-clause-modest
new-requires-clause-modest c =
    let a = asked c.args.script.now in
    let params = ap (λ z. z.params) c.in_ok-try_clone.ensures ∙ c.requires.ring in
    modest a _ c.requires.accepted
    (setting_is a c.in_ok-try_clone.field-0.value.params c.args.script.now.params c.new-roll.result.master c.in_ok-circuits.circuits refl params c.new-roll.ensures c.in_ok-circuits.ensures)

pub returns-clause-setting : goal.returns-clause-setting
returns-clause-setting c =
    let a = asked c.args.script.now in
    let params = ap (λ z. z.params) c.in_ok-try_clone.ensures ∙ c.requires.ring in
    let e = setting_is a c.in_ok-try_clone.field-0.value.params c.args.script.now.params c.new-roll.result.master c.in_ok-circuits.circuits refl params c.new-roll.ensures c.in_ok-circuits.ensures in
    if_ok c.new.result (λ session is. is.setting ∙ e) c.new.ensures.opened
