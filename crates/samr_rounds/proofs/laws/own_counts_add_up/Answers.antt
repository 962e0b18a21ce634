use Rattle.samr_rounds.proofs.Adding.{own_counts}
use Rattle.samr_rounds.proofs.laws.own_counts_add_up.Goals as goal

pub returns : goal.returns
returns c = λ area ranks level t b h tags. own_counts area ranks level t b h tags
