-- The serial run of a script, and the report that is owed for it, where no digest stands in it.
use Rattle.std.proofs.Common.{◌≡◌, [], ◌∷◌, ◌++◌, codes, Ok, refl, ap, ◌∙◌}
use Rattle.cipher_spec.specs.Ciphers.{is_switch_free}
use Rattle.session_spec.specs.Settings.{rules}
use Rattle.run_report.specs.Reports.{setting_asked, report}
use Rattle.helper_main.specs.declared.work.Work.TheVariants.{Run}
use Rattle.headline.specs.History.{history}
use Rattle.helper_main.specs.Runs.{serial_report}
use Rattle.helper_main.specs.Works.{takes, text_for, owed}
use Rattle.session_rows.proofs.Words.{joins, rests}
use Rattle.session_rows.proofs.Computed.{plans}
use Rattle.session_rows.proofs.Computed.{rules as computed}
use Rattle.run_rows.proofs.Texts.{about, sum, flooded_one}
use Rattle.run_rows.proofs.Reports.{six_rests, report_of_nobody, report_of_refused}

-- nobody is present: six rounds in which there is nothing to take
pub history_of_nobody : history (about (sum ∷ [])) ≡ rests ∷ rests ∷ rests ∷ rests ∷ rests ∷ rests ∷ []
unfolding history rules setting_asked plans computed
history_of_nobody = refl

pub serial_report_of_nobody : serial_report (about (sum ∷ [])) ≡ codes "circuit c open\n" ++ six_rests
unfolding serial_report
serial_report_of_nobody = ap (report (about (sum ∷ []))) history_of_nobody ∙ report_of_nobody

-- one party, and a circuit that is refused: it joins, and all is settled
pub history_of_refused : history flooded_one ≡ joins 1 ∷ []
unfolding history rules setting_asked plans computed
history_of_refused = refl

pub serial_report_of_refused : serial_report flooded_one ≡ codes "circuit k refused output bound 240514433191 limit 240514433190\nevent 0 join 1 joined\n"
unfolding serial_report
serial_report_of_refused = ap (report flooded_one) history_of_refused ∙ report_of_refused

run_is_owed : owed Run (Ok (about (sum ∷ []))) ≡ serial_report (about (sum ∷ []))
unfolding owed takes text_for is_switch_free
run_is_owed = refl

-- for a script that is taken, its report is owed
pub owed_for_run : owed Run (Ok (about (sum ∷ []))) ≡ codes "circuit c open\n" ++ six_rests
owed_for_run = run_is_owed ∙ serial_report_of_nobody
