-- Levels: lists of boxes with owners, of which each rank holds its own.
use Rattle.std.specs.Prelude.{◌≡◌, ℕ, ◌<◌, List, map, filter, nat_eq}
use Rattle.std.specs.List.Sorted.{IsStrictlySortedBy}
use Rattle.samr_box.specs.declared.vector.IVec.{IVec}
use Rattle.samr_box.specs.Vector.{AtMost, Within}
use Rattle.samr_box.specs.Corners.{Corners, Holds, Meet}
use Rattle.samr_box.specs.Ratios.{coarse}
use Rattle.samr_box.specs.Space.{wrapped}
use Rattle.samr_box.specs.Lists.{Member}
use Rattle.samr_level.specs.Refs.{Owned}
use Rattle.samr_level.specs.RefOrders.{ref_cmp}
use Rattle.samr_level.specs.Regions.{Area, IsCellOf, IsInside}

-- the cell lies in a box of the level
abbrev pub IsCellIn : List Owned → IVec → Type 0
IsCellIn level x = (b : Owned) × Member b level × Holds b.bx x

-- the members that a rank owns, in their order
unfoldable pub own : ℕ → List Owned → List Owned
own rank level = filter (λ b. nat_eq b.owner rank) level

-- the boxes that a rank owns
abbrev pub own_boxes : ℕ → List Owned → List Corners
own_boxes rank level = map (λ b. b.bx) (own rank level)

-- a level of a domain on this many ranks: in level order, its boxes not empty and in the domain, no two with a common cell
pub record IsLevel (area : Area) (ranks : ℕ) (level : List Owned) : Type 0 where
  pub in_order : IsStrictlySortedBy ref_cmp level
  pub not_empty : (b : Owned) → Member b level → AtMost b.bx.lo b.bx.hi
  pub inside : (b : Owned) (x : IVec) → Member b level → Holds b.bx x → IsCellOf area x
  pub disjoint : (a b : Owned) → Member a level → Member b level → Meet a.bx b.bx → a ≡ b
  pub owners : (b : Owned) → Member b level → b.owner < ranks

-- a fine level nests in a coarse one: about each of its cells, coarsened, all cells within n that lie in the
-- coarse level's domain lie in the coarse level, wrapped round periodic borders
abbrev pub IsNested : Area → IVec → IVec → List Owned → List Owned → Type 0
IsNested area ratio n fine coarser =
    (x y : IVec) → IsCellIn fine x → Within n (coarse x ratio) y → IsInside area y → IsCellIn coarser (wrapped area.frame y)
