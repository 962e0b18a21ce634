use Rattle.samr_tags.proofs.CoverWraps.{wraps, is_image}
use Rattle.samr_tags.proofs.law.cover_law.Goals as goal

pub returns : goal.returns
returns c = λ w x space hx near. (wraps w x space hx, is_image w x space near)
