-- The report that is owed for a script that is run by one caller.
use Rattle.std.specs.Prelude.{ℕ, List}
use Rattle.session_script.specs.Asked.{Asked}
use Rattle.run_report.specs.Reports.{report}
use Rattle.headline.specs.History.{history}

-- that of its serial history
unfoldable pub serial_report : Asked → List ℕ
serial_report a = report a (history a)
