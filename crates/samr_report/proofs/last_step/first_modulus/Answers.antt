use Rattle.samr_report.proofs.FirstFields.{first_has}
use Rattle.samr_report.proofs.last_step.first_modulus.Goals as goal

pub returns-clause-some : goal.returns-clause-some
returns-clause-some c = first_has _ c.as_slice.result.now _ c.problem.invariant c.as_slice.ensures
