use Rattle.samr_phase.proofs.Sequels.{went_on, went_over, named_on}
use Rattle.samr_clustering.proofs.clustering.ClusteringPhaseLetterBodyTaggedClustered.start.Goals as goal

pub returns-in-On-clause-goes : goal.returns-in-On-clause-goes
returns-in-On-clause-goes g c = λ w rank holds.
    named_on (λ p. p.inner) _ rank _ _ (went_on _ _ rank _ c.in_ok-inner.field-0 c.in-On.inner c.in-On.is (c.in_ok-inner.ensures.goes w rank holds))

pub returns-in-Over-clause-goes : goal.returns-in-Over-clause-goes
returns-in-Over-clause-goes g c = λ w rank holds.
    went_over _ _ rank _ c.in_ok-inner.field-0 c.in-Over.out c.in-Over.is (c.in_ok-inner.ensures.goes w rank holds)
