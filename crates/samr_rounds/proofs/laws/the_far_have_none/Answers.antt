use Rattle.samr_rounds.proofs.NearLaws.{far_none}
use Rattle.samr_rounds.proofs.laws.the_far_have_none.Goals as goal

pub returns : goal.returns
returns c = λ frame width t level rank b w h far. far_none frame width t level rank b w h far
