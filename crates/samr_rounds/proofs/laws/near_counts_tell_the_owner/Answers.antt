use Rattle.samr_rounds.proofs.OwnerLaws.{near_owner}
use Rattle.samr_rounds.proofs.laws.near_counts_tell_the_owner.Goals as goal

pub returns : goal.returns
returns c = λ frame width area ranks level t rule b c w h is tags m. near_owner frame width area ranks level t rule b c w h is tags m
