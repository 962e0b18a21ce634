use Rattle.samr_rounds.proofs.Adding.{near_signs}
use Rattle.samr_rounds.proofs.laws.near_signatures_add_up.Goals as goal

pub returns : goal.returns
returns c = λ frame width area ranks level t b w whole h tags. near_signs frame width area ranks level t b w whole h tags
