use Rattle.samr_verify.proofs.ReadLaws.{lacks}
use Rattle.samr_verify.proofs.LineLaws.{tells_lacks, tells_ended}
use Rattle.samr_verify.proofs.meaning.step_line.Goals as goal

pub returns-in_err-step : goal.returns-in_err-step
returns-in_err-step c =
    tells_lacks _ c.from_residual.ensures
    (lacks _ _ c.count_behind.ensures c.in_err-step.was)

pub returns : goal.returns
returns c =
    tells_ended c.in_ok-step.step.0 c.in_ok-step.step.1.now c.ended.result
    c.in_ok-step.ensures
    c.ended.ensures.some c.ended.ensures.each
