use Rattle.samr_sign.proofs.Fates.{shrunk_inside}
use Rattle.samr_sign.proofs.laws.shrinking_stays_inside.Goals as goal

pub returns : goal.returns
returns c = λ s x h p. shrunk_inside s x h p
