use Rattle.std.proofs.Common.{map}
use Rattle.samr_report.specs.RankRows.{step_told, step_text_by}
use Rattle.samr_report.proofs.Ranges.{one_more_appended}
use Rattle.samr_report.proofs.whole_text.put_steps.Goals as goal

pub loop-step-preserved : goal.loop-step-preserved
loop-step-preserved c =
    one_more_appended (λ t. step_text_by c.args.problem.now t (map (λ q. step_told t q) c.args.rows.now))
    _ _ _ _ c.in_ok-put_step.ensures c.loop-step.invariant
