use Rattle.samr_report.proofs.Weights.{light_sum, light_rows}
use Rattle.samr_report.proofs.counting.is_countable.Goals as goal

pub returns : goal.returns
returns c = λ light. light_rows c.args.rows.now (light_sum c.total_weight.result _ c.total_weight.ensures light)
