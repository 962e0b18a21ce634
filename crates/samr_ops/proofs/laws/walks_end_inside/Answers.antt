use Rattle.samr_ops.proofs.WalkLaws.{walks_end_inside}
use Rattle.samr_ops.proofs.laws.walks_end_inside.Goals as goal

pub returns : goal.returns
returns c = walks_end_inside
