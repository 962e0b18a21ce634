use Rattle.std.proofs.Common.{arith}
use Rattle.samr_clustering.proofs.Begun.{few_open}
use Rattle.samr_clustering.proofs.reporting.ReportStepStepLetterBodyTurnHeardReport.label.Goals as goal

pub overflow_mul-input : goal.overflow_mul-input
overflow_mul-input c = λ d.
    let few = few_open d.requires.0.at d.requires.2.0.0.1.can in
    let same = d.requires.2.0.1.same_round in
    let less = d.requires.2.2 in
    omega (arith, few, same, less)
