use Rattle.samr_tags.proofs.Buffering.{tags_from, tags_is}
use Rattle.samr_tags.proofs.law.tags_law.Goals as goal

pub returns : goal.returns
returns c = λ w x low. (tags_from w x low, tags_is w x)
