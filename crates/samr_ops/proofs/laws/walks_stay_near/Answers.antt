use Rattle.samr_ops.proofs.WalkLaws.{walks_stay_near}
use Rattle.samr_ops.proofs.laws.walks_stay_near.Goals as goal

pub returns : goal.returns
returns c = walks_stay_near
