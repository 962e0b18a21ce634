use Rattle.samr_msg.proofs.Deciding.{boxes}
use Rattle.std.proofs.lemmas.Slice.Eq.{slice_eq-Decides}
use Rattle.samr_msg.proofs.run.same_boxes.Goals as goal

pub returns : goal.returns
returns c = slice_eq-Decides boxes _ _ _ c.eq.ensures
