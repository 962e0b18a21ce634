use Rattle.samr_phase.proofs.Sequels.{went_on, went_over, named_on}
use Rattle.samr_trials_phases.specs.Thirty.{six_fragments, six_after}
use Rattle.samr_trials_phases.proofs.fives.FivesPhaseToldU64AtAt.finish.Goals as goal

pub returns-in-On : goal.returns-in-On
unfolding six_fragments six_after
returns-in-On c = λ run w rank here rest there hears.
    named_on (λ p. p.six) _ rank _ _ (went_on _ _ rank _ c.in_ok-six.field-0 c.in-On.six c.in-On.is (c.in_ok-six.ensures run w rank here rest there hears))

pub returns-in-Over : goal.returns-in-Over
unfolding six_fragments six_after
returns-in-Over c = λ run w rank here rest there hears.
    went_over _ _ rank _ c.in_ok-six.field-0 c.in-Over.out c.in-Over.is (c.in_ok-six.ensures run w rank here rest there hears)
