use Rattle.samr_report.proofs.Countable.{runs_are_countable}
use Rattle.samr_report.proofs.laws.runs_are_countable.Goals as goal

pub returns : goal.returns
returns c = runs_are_countable
