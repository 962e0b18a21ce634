use Rattle.samr_border.proofs.ImageCells.{in_images}
use Rattle.samr_border.proofs.laws.images_have_wrapped_cells.Goals as goal

pub returns : goal.returns
returns c = λ d shifts boxes x h are inside near. in_images d shifts boxes x h are inside near
