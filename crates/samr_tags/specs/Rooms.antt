-- Where what fine boxes need is in range: in frames of at most 2^28 cells on each axis.
use Rattle.std.specs.Prelude.{pos, negsuc}
use Rattle.samr_box.specs.declared.vector.IVec.{IVec}
use Rattle.samr_box.specs.Vector.{alike, AtMost, Between, IsRatio, IsShift}
use Rattle.samr_box.specs.Corners.{Corners}
use Rattle.samr_box.specs.Space.{Space}
use Rattle.samr_level.specs.Refs.{Link}
use Rattle.samr_tags.specs.declared.needs.Needs.{Needs}
use Rattle.samr_tags.specs.CoverRow.{HasRoom}

-- from -2^28 to 2^28 on each axis
abbrev pub IsSmall : IVec → Type 0
IsSmall x = Between (alike (negsuc 268435455)) x (alike (pos 268435456))

-- a box with small corners, which is not empty
pub record IsSmallBox (b : Corners) : Type 0 where
  pub lo : IsSmall b.lo
  pub order : AtMost b.lo b.hi
  pub hi : IsSmall b.hi

abbrev pub SmallCoversHaveRoom : Type 0
SmallCoversHaveRoom =
    (n : Needs) (e : Link) → IsRatio n.upper → IsRatio n.lower → AtMost (alike (pos 0)) n.nest → AtMost n.nest (alike (pos 268435456))
    → AtMost (alike (pos 1)) n.frame.size → AtMost n.frame.size (alike (pos 268435456)) → IsShift e.shift → IsSmallBox e.base.bx → HasRoom n e
