-- The serial history of each script keeps the headline.
use Rattle.std.proofs.Common.{◌≡◌, ℕ, ◌≤◌, List, Ok, arith}
use Rattle.run_laws.specs.Lengths.{most_calls as most}
use Rattle.run_laws.proofs.Course.{run_is_serial, serial_run_is_legal}
use Rattle.session_script.specs.Asked.{Asked}
use Rattle.session_script.specs.Kept.{IsAccepted}
use Rattle.session_script.specs.Scripts.{script}
use Rattle.session_script.proofs.KeptLemmas.{accepted}
use Rattle.session_script.specs.Lines.{lines}
use Rattle.headline.specs.Asked.{rules_asked}
use Rattle.headline.specs.History.{most_calls, history, HistoriesKeepIt}
use Rattle.headline.proofs.Setting.{whole}
use Rattle.headline.proofs.Small.{short}
use Rattle.headline.proofs.Keeps.{keeps}

text_accepted : (text : List ℕ) (a : Asked) → script text ≡ Ok a → IsAccepted a
unfolding script
text_accepted text a e = accepted (lines text) a e

pub histories_keep_it : HistoriesKeepIt
unfolding history
histories_keep_it text a e free =
    let h = text_accepted text a e in
    let f = rules_asked a in
    let few : most f a.present a.lanes ≤ most_calls = let l = short a h in omega (arith, l) in
    keeps a h free (history a) (serial_run_is_legal most_calls f a.present a.lanes) (run_is_serial most_calls f a.present a.lanes (whole a) few)
