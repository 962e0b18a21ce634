use Rattle.samr_verify.proofs.OneVerdict.{one_verdict}
use Rattle.samr_verify.proofs.text_laws.verdicts_are_one.Goals as goal

pub returns : goal.returns
returns c = λ p text v w small one other. one_verdict p text v w small one other
