use Rattle.samr_ops.proofs.WalkLaws.{clamp_moves_to_the_nearest}
use Rattle.samr_ops.proofs.laws.clamp_moves_to_the_nearest.Goals as goal

pub returns : goal.returns
returns c = clamp_moves_to_the_nearest
