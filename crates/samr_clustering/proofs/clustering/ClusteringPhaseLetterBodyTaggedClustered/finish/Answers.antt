use Rattle.samr_phase.proofs.Sequels.{went_on, went_over, named_on}
use Rattle.samr_clustering.proofs.clustering.ClusteringPhaseLetterBodyTaggedClustered.finish.Goals as goal

pub returns-in-On : goal.returns-in-On
returns-in-On g c = λ run w rank here rest there hears.
    named_on (λ p. p.inner) _ rank _ _ (went_on _ _ rank _ c.in_ok-inner.field-0 c.in-On.inner c.in-On.is (c.in_ok-inner.ensures run w rank here rest there hears))

pub returns-in-Over : goal.returns-in-Over
returns-in-Over g c = λ run w rank here rest there hears.
    went_over _ _ rank _ c.in_ok-inner.field-0 c.in-Over.out c.in-Over.is (c.in_ok-inner.ensures run w rank here rest there hears)
