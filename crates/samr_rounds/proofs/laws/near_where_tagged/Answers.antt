use Rattle.samr_rounds.proofs.NearLaws.{near_tagged}
use Rattle.samr_rounds.proofs.laws.near_where_tagged.Goals as goal

pub returns : goal.returns
returns c = λ frame width t level rank b x w h e. near_tagged frame width t level rank b x w h e
