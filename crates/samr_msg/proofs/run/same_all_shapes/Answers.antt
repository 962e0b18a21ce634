use Rattle.samr_msg.proofs.Deciding.{shapes}
use Rattle.std.proofs.lemmas.Slice.Eq.{slice_eq-Decides}
use Rattle.samr_msg.proofs.run.same_all_shapes.Goals as goal

pub returns : goal.returns
returns c = slice_eq-Decides shapes _ _ _ c.eq.ensures
