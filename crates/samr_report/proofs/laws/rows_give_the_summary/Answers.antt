use Rattle.samr_report.proofs.Summing.{rows_give_the_summary}
use Rattle.samr_report.proofs.SummingBounds.{runs_can_be_summed}
use Rattle.samr_report.proofs.laws.rows_give_the_summary.Goals as goal

pub returns : goal.returns
returns c = record { text = rows_give_the_summary; numbers = runs_can_be_summed }
