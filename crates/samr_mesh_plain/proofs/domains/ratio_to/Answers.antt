use Rattle.samr_mesh_plain.proofs.LevelFacts.{next_ratio}
use Rattle.samr_mesh_plain.proofs.domains.ratio_to.Goals as goal

pub product-ratio-requires : goal.product-ratio-requires
product-ratio-requires c = next_ratio c.args.problem.now c.loop-below.below c.args.level c.loop-below.ratio c.step_of.result c.accepted.ensures c.loop-below-test.true c.requires c.loop-below.invariant c.step_of.ensures
