use Rattle.samr_phase.proofs.Sequels.{went_over}
use Rattle.samr_tagging.proofs.group.TaggingPhaseLetterBodyBaseTagged.start.Goals as goal

pub returns-in-Over-clause-goes : goal.returns-in-Over-clause-goes
returns-in-Over-clause-goes g c = λ w rank holds.
    went_over _ _ rank _ c.in_ok-tags.field-0 c.in-Over.out c.in-Over.is (c.in_ok-tags.ensures.goes w rank holds)
