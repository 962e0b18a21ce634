-- The places of boxes in a list: of those that meet a box, and of those that have a cell in a bucket.
use Rattle.std.specs.Prelude.{ℕ, pos, Bool, false, List, map, filter}
use Rattle.std.specs.List.{enumerate_from, fold, slice_get}
use Rattle.std.specs.Option.{option_map_or}
use Rattle.samr_box.specs.declared.vector.Axis.TheVariants.{I, J, K}
use Rattle.samr_box.specs.declared.vector.IVec.{IVec}
use Rattle.samr_box.specs.Vector.{alike, greatest, Between}
use Rattle.samr_box.specs.Corners.{Corners, meets, span}
use Rattle.samr_box.specs.Ratios.{coarse, refined}

-- the places from a number on, ascending, of the boxes that pass a test
abbrev pub places_from : ℕ → (Corners → Bool) → List Corners → List ℕ
places_from n test boxes = map (λ p. p.0) (filter (λ p. test p.1) (enumerate_from n boxes))

abbrev pub places_of : (Corners → Bool) → List Corners → List ℕ
places_of test boxes = places_from 0 test boxes

-- whether there is a box at a place that passes a test
abbrev pub passes_at : (Corners → Bool) → List Corners → ℕ → Bool
passes_at test boxes place = option_map_or test (slice_get boxes place) false

-- the places of the boxes that meet a box
unfoldable pub meeting : List Corners → Corners → List ℕ
meeting boxes b = places_of (λ a. meets a b) boxes

-- the lengths of a box
abbrev pub lengths : Corners → IVec
lengths b = record { k = pos (span K b); j = pos (span J b); i = pos (span I b) }

-- the edge of the buckets: on each axis the greatest length of a box, and at least 1
abbrev pub edge_of : List Corners → IVec
edge_of boxes = fold (λ edge b. greatest edge (lengths b)) (alike (pos 1)) boxes

-- the cells of the bucket with a number; the number of a cell's bucket is `coarse x edge`
abbrev pub bucket : IVec → IVec → Corners
bucket edge c = refined (record { lo = c; hi = c }) edge

-- the places of the boxes that have a cell in the bucket of a cell
unfoldable pub in_bucket : List Corners → IVec → List ℕ
in_bucket boxes x = let edge = edge_of boxes in places_of (λ a. meets a (bucket edge (coarse x edge))) boxes

-- lengths that a bucket's edge may have
abbrev pub IsEdge : IVec → Type 0
IsEdge edge = Between (alike (pos 1)) edge (alike (pos 2147483649))
