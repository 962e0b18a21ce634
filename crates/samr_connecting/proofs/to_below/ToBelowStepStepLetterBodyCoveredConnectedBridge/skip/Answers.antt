use Rattle.samr_connecting.proofs.Sides.{not_made}
use Rattle.samr_connecting.proofs.to_below.ToBelowStepStepLetterBodyCoveredConnectedBridge.skip.Goals as goal

pub returns-clause-after : goal.returns-clause-after
returns-clause-after g c = λ w rank holds silent. c.connected.ensures w rank holds (not_made _ _ silent)
