use Rattle.samr_problem.proofs.Ranged.{ratio_at}
use Rattle.samr_problem.proofs.lists.ratios_of.Goals as goal

pub ratio_of-requires : goal.ratio_of-requires
ratio_of-requires c = ratio_at c.args.vectors.now c.loop-vector.vector-index _ c.requires c.loop-vector-test.true
