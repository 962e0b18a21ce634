use Rattle.samr_border.proofs.TurnLaws.{wrapped_stays}
use Rattle.samr_border.proofs.laws.cells_of_the_frame_stay.Goals as goal

pub returns : goal.returns
returns c = λ d x h home. wrapped_stays d x h home
