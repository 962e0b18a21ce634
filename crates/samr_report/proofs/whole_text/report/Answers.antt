use Rattle.std.proofs.Common.{◌∙◌}
use Rattle.samr_report.proofs.WholeRuns.{report_of_a_run}
use Rattle.samr_report.proofs.whole_text.report.Goals as goal

pub returns-clause-of_a_run : goal.returns-clause-of_a_run
returns-clause-of_a_run c = λ ranks mesh letters are.
    c.in_ok-text.ensures.text ∙ report_of_a_run c.args.problem.now ranks mesh letters c.args.rows.now c.in_ok-text.ensures.accepted are
