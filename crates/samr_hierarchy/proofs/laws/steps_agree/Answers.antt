-- The law 'steps_agree'.
use Rattle.samr_hierarchy.proofs.Agreeing.{steps_agree}
use Rattle.samr_hierarchy.proofs.laws.steps_agree.Goals as goal

pub returns : goal.returns
returns c = steps_agree
