use Rattle.samr_problem.specs.Lengths.{lengths_of}
use Rattle.samr_problem.proofs.Capping.{lengths_more}
use Rattle.samr_problem.proofs.lengths.lengths_of.Goals as goal

pub loop-ratio-init : goal.loop-ratio-init
unfolding lengths_of
loop-ratio-init c = c.of-lengths.ensures.capped

pub loop-ratio-preserved : goal.loop-ratio-preserved
loop-ratio-preserved c = lengths_more c.args.domain c.args.ratios.now c.loop-ratio.ratio-index _ _ _ c.loop-ratio-test.true c.loop-ratio.invariant c.refined-lengths.ensures
