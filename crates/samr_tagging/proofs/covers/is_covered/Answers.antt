use Rattle.std.proofs.Common.{◌∙◌}
use Rattle.samr_tagging.proofs.CoverStarts.{is_covered}
use Rattle.samr_tagging.proofs.covers.is_covered.Goals as goal

pub returns : goal.returns
returns g c = λ w r h. c.is_some.ensures ∙ is_covered w r h.0.problem h.1 (λ p. p.now) c.above.result (c.above.ensures w r h)
