-- Modifying: the overlaps of a level, the anchor, with a new level whose boxes take the places of those of an old one.
use Rattle.std.specs.Prelude.{◌≡◌, ℕ, ◌<◌, true, List, map}
use Rattle.std.specs.List.{flat_map}
use Rattle.std.specs.List.Sorted.{IsStrictlySortedBy}
use Rattle.samr_box.specs.declared.vector.IVec.{IVec}
use Rattle.samr_box.specs.Vector.{AtMost, IsRatio}
use Rattle.samr_box.specs.Corners.{Corners}
use Rattle.samr_box.specs.Space.{Space}
use Rattle.samr_box.specs.Lists.{Member}
use Rattle.samr_level.specs.declared.parts.Move.{Move}
use Rattle.samr_level.specs.declared.parts.Pair.{Pair}
use Rattle.samr_level.specs.Refs.{Owned, link}
use Rattle.samr_level.specs.RefOrders.{ref_cmp, in_order}
use Rattle.samr_level.specs.Overlaps.{Scale, scale, near, IsTrueOverlap}
use Rattle.samr_level.specs.Pairs.{pair}

-- two whole levels, what becomes of the boxes of the old one, the ratios from level 0, whose domain is the frame, and the
-- width, in cells of the coarser of the two. The new level has the old level's ratio
pub record Modifying : Type 0 where
  pub ranks : ℕ
  pub frame : Space
  pub anchors : List Owned
  pub olds : List Owned
  pub moves : List Move
  pub anchor_ratio : IVec
  pub old_ratio : IVec
  pub width : IVec

-- the new level: all boxes that take the place of one, in level order
unfoldable pub news_of : Modifying → List Owned
news_of w = in_order ref_cmp (flat_map (λ m. m.news) w.moves)

-- how anchors are compared with old boxes and new ones, and these with anchors
abbrev pub forth_scale : Modifying → Scale
forth_scale w = scale w.frame w.width w.anchor_ratio w.old_ratio

abbrev pub back_scale : Modifying → Scale
back_scale w = scale w.frame w.width w.old_ratio w.anchor_ratio

-- what a rank has of the overlaps of anchors and old boxes, and in the end of anchors and new boxes
abbrev pub old_pair : Modifying → ℕ → Pair
old_pair w rank = pair w.frame w.width w.anchor_ratio w.old_ratio w.anchors w.olds rank

abbrev pub modify_pair : Modifying → ℕ → Pair
modify_pair w rank = pair w.frame w.width w.anchor_ratio w.old_ratio w.anchors (news_of w) rank

-- the ranks own all boxes: anchors, old boxes, and both sides of each move
abbrev pub Own : ℕ → List Owned → Type 0
Own ranks level = (b : Owned) → Member b level → b.owner < ranks

pub record IsOwned (w : Modifying) : Type 0 where
  pub anchors : Own w.ranks w.anchors
  pub olds : Own w.ranks w.olds
  pub moved : (m : Move) → Member m w.moves → m.old.owner < w.ranks
  pub news : (m : Move) → Member m w.moves → Own w.ranks m.news

-- all cells of a box lie in another
pub record LiesIn (part whole : Corners) : Type 0 where
  pub low : AtMost whole.lo part.lo
  pub high : AtMost part.hi whole.hi

-- what a modification needs: levels in level order, one move for each old box, in their order, and new boxes in their old ones
pub record IsModifying (w : Modifying) : Type 0 where
  pub owned : IsOwned w
  pub anchors : IsStrictlySortedBy ref_cmp w.anchors
  pub olds : IsStrictlySortedBy ref_cmp w.olds
  pub moves : map (λ m. m.old) w.moves ≡ w.olds
  pub inside : (m : Move) (n : Owned) → Member m w.moves → Member n m.news → LiesIn n.bx m.old.bx
  pub anchor_ratio : IsRatio w.anchor_ratio
  pub old_ratio : IsRatio w.old_ratio

-- a new box takes the place of an old one
abbrev pub TakesPlace : Modifying → Owned → Owned → Type 0
TakesPlace w n o = (m : Move) × Member m w.moves × (m.old ≡ o) × Member n m.news

-- a new box takes the place of an old one that overlaps an anchor at a shift, and is itself near at this shift
pub record IsKept (w : Modifying) (a n : Owned) (s : IVec) : Type 0 where
  pub old : Owned
  pub place : TakesPlace w n old
  pub overlap : IsTrueOverlap (forth_scale w) w.anchors w.olds (link a old s)
  pub near : near (forth_scale w) a.bx n.bx s ≡ true
