use Rattle.samr_ops.proofs.WalkLaws.{walks_stay_inside}
use Rattle.samr_ops.proofs.laws.walks_stay_inside.Goals as goal

pub returns : goal.returns
returns c = walks_stay_inside
