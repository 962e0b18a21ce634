use Rattle.samr_phase.proofs.Sequels.{went_on, went_over, named_on}
use Rattle.samr_trials_phases.specs.Thirty.{six_fragments, six_after}
use Rattle.samr_trials_phases.proofs.ones.OnesPhaseToldU64AtAt.start.Goals as goal

pub returns-in-On-clause-goes : goal.returns-in-On-clause-goes
unfolding six_fragments six_after
returns-in-On-clause-goes c = λ w rank holds.
    named_on (λ p. p.six) _ rank _ _ (went_on _ _ rank _ c.in_ok-six.field-0 c.in-On.six c.in-On.is (c.in_ok-six.ensures.goes w rank holds))

pub returns-in-Over-clause-goes : goal.returns-in-Over-clause-goes
unfolding six_fragments six_after
returns-in-Over-clause-goes c = λ w rank holds.
    went_over _ _ rank _ c.in_ok-six.field-0 c.in-Over.out c.in-Over.is (c.in_ok-six.ensures.goes w rank holds)
