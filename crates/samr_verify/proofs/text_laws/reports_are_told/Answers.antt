use Rattle.samr_verify.proofs.GatheringLaws.{report_told}
use Rattle.samr_verify.proofs.text_laws.reports_are_told.Goals as goal

pub returns : goal.returns
returns c = λ p r is. report_told p r is
