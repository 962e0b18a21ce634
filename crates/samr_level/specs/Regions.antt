-- The domain of a level: the cells of the parts of a frame, or the whole frame where it has no parts.
use Rattle.std.specs.Prelude.{Bool, IsTrue, List, [], ◌∷◌, map, ◌==◌, length, if◌then◌else◌}
use Rattle.std.specs.List.{All}
use Rattle.samr_box.specs.declared.vector.IVec.{IVec}
use Rattle.samr_box.specs.Corners.{Corners, IsBox, Holds, holds_box}
use Rattle.samr_box.specs.Ratios.{refined}
use Rattle.samr_box.specs.Space.{Space, IsSpace, whole, finer, wrapped}
use Rattle.samr_box.specs.Lists.{Member}
use Rattle.samr_boxlist.specs.Covers.{held, NoneMeet}

pub record Area : Type 0 where
  pub frame : Space
  pub parts : List Corners

-- the parts lie in the frame, and no two have a common cell
pub record IsArea (a : Area) : Type 0 where
  pub frame : IsSpace a.frame
  pub boxes : All IsBox a.parts
  pub inside : All (λ p. IsTrue (holds_box (whole a.frame) p)) a.parts
  pub apart : NoneMeet a.parts

-- the boxes whose cells the domain has
abbrev pub boxes_of : Area → List Corners
boxes_of a = if length a.parts == 0 then whole a.frame ∷ [] else a.parts

-- a cell of the frame is a cell of the domain; a cell anywhere is inside where it is one, wrapped
abbrev pub IsCellOf : Area → IVec → Type 0
IsCellOf a x = (p : Corners) × Member p (boxes_of a) × Holds p x

abbrev pub IsInside : Area → IVec → Type 0
IsInside a x = IsCellOf a (wrapped a.frame x)

-- the test for this
abbrev pub is_inside : Area → IVec → Bool
is_inside a x = held (wrapped a.frame x) (boxes_of a)

-- the domain of a finer level
abbrev pub finer_area : Area → IVec → Area
finer_area a r = record { frame = finer a.frame r; parts = map (λ p. refined p r) a.parts }
