use Rattle.samr_sign.proofs.Fates.{decision_is}
use Rattle.samr_sign.proofs.laws.each_decision_is_a_fate.Goals as goal

pub returns : goal.returns
returns c = λ s rule h. decision_is s rule h
