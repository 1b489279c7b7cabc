use Rattle.run_laws.proofs.Dropped.{dropped_is_left}
use Rattle.run_laws.proofs.Splits.{entries_append}
use Rattle.run_laws.proofs.Appends.{tasks_append, tasks_split, breaks_split}
use Rattle.run_laws.proofs.laws.following.Goals as goal

pub returns : goal.returns
returns c = record { dropped = dropped_is_left; entries = entries_append; tasks = tasks_append; parts = tasks_split; breaks = breaks_split }
