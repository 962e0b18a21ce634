use Rattle.samr_sign.proofs.Fates.{shrunk_keeps}
use Rattle.samr_sign.proofs.laws.shrinking_keeps_tags.Goals as goal

pub returns : goal.returns
returns c = λ t b x h e. shrunk_keeps t b x h e
