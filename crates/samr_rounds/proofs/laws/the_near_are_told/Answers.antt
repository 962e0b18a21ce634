use Rattle.samr_rounds.proofs.NearLaws.{near_told}
use Rattle.samr_rounds.proofs.laws.the_near_are_told.Goals as goal

pub returns : goal.returns
returns c = λ frame width boxes t rule roots q h. near_told frame width boxes t rule roots q h
