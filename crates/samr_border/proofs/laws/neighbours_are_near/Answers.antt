use Rattle.samr_border.proofs.TurnLaws.{near_neighbour}
use Rattle.samr_border.proofs.laws.neighbours_are_near.Goals as goal

pub returns : goal.returns
returns c = λ d w x y p home near. near_neighbour d w x y p home near
