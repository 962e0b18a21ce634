use Rattle.samr_rounds.proofs.OwnerLaws.{owner_most}
use Rattle.samr_rounds.proofs.laws.owners_have_most.Goals as goal

pub returns : goal.returns
returns c = λ t level ranks b r less. owner_most t level ranks b r less
