use Rattle.std.proofs.Common.{◌∙◌}
use Rattle.samr_connecting.proofs.OldLevels.{is_above_some}
use Rattle.samr_connecting.proofs.from_above.FromAboveStepStepLetterBodyMeetingCoveredBridge.visits.Goals as goal

pub returns : goal.returns
returns g c = λ w r h. let b = h.0.0.0 in c.is_some.ensures ∙ is_above_some w r b.0.problem b.1 (λ p. p.now) c.above.result (c.above.ensures w r b)
