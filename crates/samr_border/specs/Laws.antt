-- What periodic borders do to cells near the frame, to images of boxes and to levels of different ratio.
use Rattle.std.specs.Prelude.{◌≡◌, List, ◌↔◌}
use Rattle.samr_box.specs.declared.vector.IVec.{IVec}
use Rattle.samr_box.specs.Vector.{AtMost, Within, minus, times, IsRatio}
use Rattle.samr_box.specs.Corners.{Corners, Holds}
use Rattle.samr_box.specs.Ratios.{coarse}
use Rattle.samr_box.specs.Space.{Space, IsSpace, whole, finer, image, wrapped}
use Rattle.samr_box.specs.Lists.{Member}
use Rattle.samr_border.specs.Turns.{turns, IsNearFrame, IsShiftOf}
use Rattle.samr_border.specs.Images.{IsOfFrame, images_by, IsIn, AreShiftsOf}

-- a cell near the frame, less its turns, is the cell to which it wraps
abbrev pub TurnsLeadHome : Type 0
TurnsLeadHome = (d : Space) (x : IVec) → IsSpace d → IsNearFrame d x → minus x (times (turns d x) d.size) ≡ wrapped d x

-- an image of a box has the cell exactly where the box has the wrapped cell and the image lies by the cell's turns
abbrev pub OneImageHasACell : Type 0
OneImageHasACell =
    (d : Space) (b : Corners) (s x : IVec) → IsSpace d → IsOfFrame d b → IsShiftOf d s → IsNearFrame d x
    → Holds (image d b s) x ↔ (Holds b (wrapped d x) × (s ≡ turns d x))

-- an image of a box of a list has the cell exactly where a box of the list has the wrapped cell
abbrev pub ImagesHaveWrappedCells : Type 0
ImagesHaveWrappedCells =
    (d : Space) (shifts : List IVec) (boxes : List Corners) (x : IVec) → IsSpace d → AreShiftsOf d shifts
    → ((b : Corners) → Member b boxes → IsOfFrame d b) → IsNearFrame d x
    → IsIn (images_by d shifts boxes) x ↔ IsIn boxes (wrapped d x)

-- wrapping twice is wrapping once, and a cell of the frame wraps to itself
abbrev pub WrappingTwiceIsOnce : Type 0
WrappingTwiceIsOnce = (d : Space) (x : IVec) → IsSpace d → wrapped d (wrapped d x) ≡ wrapped d x

abbrev pub CellsOfTheFrameStay : Type 0
CellsOfTheFrameStay = (d : Space) (x : IVec) → IsSpace d → Holds (whole d) x → wrapped d x ≡ x

-- cells within at most a length of a cell of the frame are near the frame
abbrev pub NeighboursAreNear : Type 0
NeighboursAreNear =
    (d : Space) (w x y : IVec) → AtMost w d.size → Holds (whole d) x → Within w x y → IsNearFrame d y

-- wrapping on a finer level and on a coarser one
abbrev pub WrapsOfLevelsAgree : Type 0
WrapsOfLevelsAgree =
    (d : Space) (r x : IVec) → IsSpace d → IsRatio r
    → (coarse (wrapped (finer d r) x) r ≡ wrapped d (coarse x r)) × (turns (finer d r) x ≡ turns d (coarse x r))
