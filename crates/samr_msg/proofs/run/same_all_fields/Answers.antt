use Rattle.samr_msg.proofs.Deciding.{fields}
use Rattle.std.proofs.lemmas.Slice.Eq.{slice_eq-Decides}
use Rattle.samr_msg.proofs.run.same_all_fields.Goals as goal

pub returns : goal.returns
returns c = slice_eq-Decides fields _ _ _ c.eq.ensures
