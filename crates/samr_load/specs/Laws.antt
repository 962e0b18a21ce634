-- What a balance keeps, and how even it is.
use Rattle.std.specs.Prelude.{◌≡◌, ◌⊎◌, ℕ, ◌+◌, ◌*◌, ◌<◌, ◌≤◌, List, [], map, filter}
use Rattle.std.specs.Ordering.{is_eq}
use Rattle.samr_box.specs.declared.vector.IVec.{IVec}
use Rattle.samr_box.specs.Vector.{AtMost}
use Rattle.samr_box.specs.Corners.{Corners, Holds, longest_of}
use Rattle.samr_box.specs.Lists.{Member}
use Rattle.samr_bits.specs.Sums.{sum_below}
use Rattle.samr_boxlist.specs.Covers.{cover, IsDisjoint}
use Rattle.samr_level.specs.Refs.{Owned}
use Rattle.samr_level.specs.RefOrders.{ref_cmp}
use Rattle.samr_load.specs.Pieces.{Placed, load, of_origin}
use Rattle.samr_load.specs.Taking.{across, parted}
use Rattle.samr_load.specs.Ascent.{Balancing}
use Rattle.samr_load.specs.Descent.{pieces_of}
use Rattle.samr_load.specs.Balanced.{quota_of, cells_in, balancing_by, all_pieces, balanced}

-- boxes that are not empty, each owned by one of the ranks
abbrev pub AreOwned : ℕ → List Owned → Type 0
AreOwned ranks boxes = (o : Owned) → Member o boxes → AtMost o.bx.lo o.bx.hi × (o.owner < ranks)

abbrev pub boxes_of : List Owned → List Corners
boxes_of boxes = map (λ o. o.bx) boxes

abbrev pub places_of : List Placed → List Corners
places_of pieces = map (λ q. q.bx) pieces

-- the boxes of a list that are this one
abbrev pub same_as : Owned → List Owned → List Owned
same_as o boxes = filter (λ c. is_eq (ref_cmp c o)) boxes

-- each cell lies in as many pieces as boxes, also of one box and its pieces; each piece is a part of its box
pub record AreAllCells (boxes : List Owned) (pieces : List Placed) : Type 0 where
  pub cells : (x : IVec) → cover x (places_of pieces) ≡ cover x (boxes_of boxes)
  pub disjoint : IsDisjoint (boxes_of boxes) → IsDisjoint (places_of pieces)
  pub not_empty : (q : Placed) → Member q pieces → AtMost q.bx.lo q.bx.hi
  pub origins : (q : Placed) → Member q pieces → Member q.origin boxes
  pub inside : (q : Placed) (x : IVec) → Member q pieces → Holds q.bx x → Holds q.origin.bx x
  pub cells_of_one : (o : Owned) (x : IVec) → cover x (places_of (of_origin o pieces)) ≡ cover x (boxes_of (same_as o boxes))
  pub load_of_one : (o : Owned) → load (of_origin o pieces) ≡ cells_in (same_as o boxes)

-- the pieces of all ranks have all cells, whatever the quotas are
abbrev pub CellsAreKept : Type 0
CellsAreKept =
    (quota : ℕ → ℕ) (ranks smallest : ℕ) (boxes : List Owned) → 0 < smallest → AreOwned ranks boxes
    → AreAllCells boxes (all_pieces (balancing_by quota ranks smallest boxes))

-- so have the boxes of the balanced list
abbrev pub LevelIsKept : Type 0
LevelIsKept =
    (ranks smallest : ℕ) (boxes : List Owned) (x : IVec) → 0 < smallest → AreOwned ranks boxes
    → cover x (boxes_of (balanced ranks smallest boxes)) ≡ cover x (boxes_of boxes)

-- not empty, and across the longest axis at most so many cells a plane
pub record IsThin (most : ℕ) (q : Placed) : Type 0 where
  pub not_empty : AtMost q.bx.lo q.bx.hi
  pub thin : across (longest_of q.bx) q.bx ≤ most

-- twice the least part of a box
abbrev pub grain : ℕ → ℕ → ℕ
grain smallest most = 2 * (smallest * most)

-- a take falls short by less than a grain, unless it takes all
abbrev pub TakesFallShort : Type 0
TakesFallShort =
    (smallest most want : ℕ) (list : List Placed) → 0 < smallest → ((q : Placed) → Member q list → IsThin most q)
    → (load (parted smallest list want).taken ≤ want)
    × ((want < load (parted smallest list want).taken + grain smallest most) ⊎ ((parted smallest list want).rest ≡ []))

-- whatever the quotas are, if they add up to all cells, no rank has more than three grains above its quota
abbrev pub LoadsAreBounded : Type 0
LoadsAreBounded =
    (b : Balancing) (most : ℕ) → 0 < b.smallest
    → ((rank : ℕ) (q : Placed) → rank < b.ranks → Member q (b.own rank) → IsThin most q)
    → sum_below b.quota b.ranks ≡ sum_below (λ rank. load (b.own rank)) b.ranks
    → (rank : ℕ) → rank < b.ranks → load (pieces_of b rank) ≤ b.quota rank + 3 * grain b.smallest most

abbrev pub QuotasAddUp : Type 0
QuotasAddUp = (cells ranks : ℕ) → 0 < ranks → sum_below (quota_of cells ranks) ranks ≡ cells
