use Rattle.samr_verify.proofs.Accepting.{accepted_is_report}
use Rattle.samr_verify.proofs.form_laws.accepted_are_reports.Goals as goal

pub returns : goal.returns
returns c = λ p lines e. accepted_is_report p lines e
