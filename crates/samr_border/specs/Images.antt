-- The images of boxes of the frame.
use Rattle.std.specs.Prelude.{List, map, ◌↔◌}
use Rattle.std.specs.List.{flat_map}
use Rattle.samr_box.specs.declared.vector.IVec.{IVec}
use Rattle.samr_box.specs.Corners.{Corners, Holds}
use Rattle.samr_box.specs.Space.{Space, whole, image}
use Rattle.samr_box.specs.Lists.{Member}
use Rattle.samr_border.specs.Turns.{IsShiftOf}

-- all cells of the box are cells of the frame
abbrev pub IsOfFrame : Space → Corners → Type 0
IsOfFrame d b = (x : IVec) → Holds b x → Holds (whole d) x

-- the image of each box by each shift, in the order of the boxes and then of the shifts
abbrev pub images_by : Space → List IVec → List Corners → List Corners
images_by d shifts boxes = flat_map (λ b. map (λ s. image d b s) shifts) boxes

-- some box of the list has the cell
abbrev pub IsIn : List Corners → IVec → Type 0
IsIn boxes x = (b : Corners) × Member b boxes × Holds b x

-- the list has the shifts of the frame and no others
abbrev pub AreShiftsOf : Space → List IVec → Type 0
AreShiftsOf d shifts = (s : IVec) → Member s shifts ↔ IsShiftOf d s
