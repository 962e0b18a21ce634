use Rattle.samr_ops.proofs.WalkLaws.{reflect_mirrors}
use Rattle.samr_ops.proofs.laws.reflect_mirrors.Goals as goal

pub returns : goal.returns
returns c = reflect_mirrors
