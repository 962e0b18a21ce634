use Rattle.std.proofs.Common.{◌∙◌}
use Rattle.samr_report.proofs.Summing.{rows_give_the_summary}
use Rattle.samr_report.proofs.last_step.summary.Goals as goal

pub returns-clause-of_a_run : goal.returns-clause-of_a_run
returns-clause-of_a_run c = λ ranks mesh letters are.
    c.in_ok-text.ensures.text
    ∙ rows_give_the_summary c.args.problem.now c.args.seed c.args.size ranks mesh letters c.args.rows.now c.in_ok-text.ensures.accepted are
