use Rattle.samr_ops.proofs.Fitting.{max_is_the_greatest}
use Rattle.samr_ops.proofs.laws.max_is_the_greatest.Goals as goal

pub returns : goal.returns
returns c = max_is_the_greatest
