use Rattle.std.proofs.Common.{ap, ◌∙◌}
use Rattle.samr_values.proofs.CoarsenStage.{tells}
use Rattle.samr_values.proofs.coarsen.CoarsenStage.letters.Goals as goal

pub returns-clause-letters : goal.returns-clause-letters
returns-clause-letters c = λ w rank h. tells w rank c.replace.result.items h.rest.is h.rest.within (ap (λ v. v.items) c.replace.ensures.value ∙ h.same_letters)
