use Rattle.samr_rounds.proofs.NearLaws.{near_down}
use Rattle.samr_rounds.proofs.laws.near_goes_down.Goals as goal

pub returns : goal.returns
returns c = λ frame width boxes t rule b p h m near. near_down frame width boxes t rule b p h m near
