use Rattle.samr_border.proofs.ImageCells.{one_image}
use Rattle.samr_border.proofs.laws.one_image_has_a_cell.Goals as goal

pub returns : goal.returns
returns c = λ d b s x h inside step near. one_image d b s x h inside step near
