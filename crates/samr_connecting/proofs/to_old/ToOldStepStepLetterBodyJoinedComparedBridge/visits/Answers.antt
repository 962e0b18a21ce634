use Rattle.std.proofs.Common.{◌∙◌}
use Rattle.samr_connecting.proofs.OldLevels.{is_old_some}
use Rattle.samr_connecting.proofs.to_old.ToOldStepStepLetterBodyJoinedComparedBridge.visits.Goals as goal

pub returns : goal.returns
returns g c = λ w r h. c.is_some.ensures ∙ is_old_some w r h.0.0.problem h.0.1 (λ p. p.now) c.old_above.result (c.old_above.ensures w r h.0)
