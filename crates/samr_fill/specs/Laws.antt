-- What is true of the values about a level.
use Rattle.std.specs.Prelude.{◌≡◌, ℕ, ◌<◌, length, Some, slice_get, slice_index}
use Rattle.samr_box.specs.declared.vector.IVec.{IVec}
use Rattle.samr_box.specs.Vector.{minus, times}
use Rattle.samr_box.specs.Corners.{Holds, grown}
use Rattle.samr_box.specs.Space.{image}
use Rattle.samr_box.specs.Lists.{Member}
use Rattle.samr_level.specs.Refs.{Owned}
use Rattle.samr_border.specs.Turns.{IsShiftOf}
use Rattle.samr_ops.specs.declared.rules.Rules.{Rules}
use Rattle.samr_sched.specs.Ask.{frame_of}
use Rattle.samr_fill.specs.Fill.{Filling, IsFilling, value_of}

-- the value of a cell of an image of a box of the level is that of the cell of the box
abbrev pub CopiesAgree : Type 0
CopiesAgree =
    (w : Filling) (f : ℕ × Rules) (h : Owned) (s x : IVec) → IsFilling w → Member h w.schedule.level → IsShiftOf (frame_of w.schedule) s
    → Holds (image (frame_of w.schedule) h.bx s) x → value_of w f x ≡ w.values f.0 (minus x (times s (frame_of w.schedule).size))

-- a cell of a box of the level keeps its value
abbrev pub TheLevelKeepsItsValues : Type 0
TheLevelKeepsItsValues = (w : Filling) (f : ℕ × Rules) (h : Owned) (x : IVec) → IsFilling w → Member h w.schedule.level → Holds h.bx x → value_of w f x ≡ w.values f.0 x

-- the value of each cell about a box of the level is below the modulus of the field, where the fixed value of a domain of parts is
abbrev pub ValuesFit : Type 0
ValuesFit =
    (w : Filling) (n : ℕ) (r : Rules) (b : Owned) (x : IVec) → IsFilling w → slice_get w.rules n ≡ Some r → Member b w.schedule.level
    → (0 < length w.schedule.region.parts → slice_index w.schedule.fixed n < r.modulus) → Holds (grown b.bx r.width) x → value_of w (n, r) x < r.modulus
