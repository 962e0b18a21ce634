-- What the cut leaves is a level.
use Rattle.samr_nest.proofs.CutLevels.{is_cut}
use Rattle.samr_nest.proofs.laws.cuts_make_a_level.Goals as goal

pub returns : goal.returns
returns c = λ area ranks level nest largest clusters can. is_cut area ranks level nest largest clusters can
