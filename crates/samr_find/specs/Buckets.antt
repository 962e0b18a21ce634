-- The buckets of a finder: for each number, the places of the boxes that have a cell in the bucket.
use Rattle.std.specs.Prelude.{◌≡◌, ℕ, ◌<◌, ◌^◌, Bool, List, [], ◌∷◌, length, All, filter, if◌then◌else◌}
use Rattle.std.specs.List.{flat_map}
use Rattle.std.specs.Option.{option_map_or}
use Rattle.std.specs.BTreeMap.{BTreeMap, get}
use Rattle.samr_box.specs.declared.vector.IVec.{IVec}
use Rattle.samr_box.specs.Corners.{Corners, IsBox, holds, meets}
use Rattle.samr_box.specs.Ratios.{coarsened}
use Rattle.samr_box.specs.Orders.{cell_cmp}
use Rattle.samr_find.specs.Places.{IsEdge, edge_of, places_of, passes_at}
use Rattle.samr_find.specs.Cells.{cells_in}

-- the place where a test holds
abbrev pub where_true : Bool → ℕ → List ℕ
where_true test place = if test then place ∷ [] else []

module _ {V : Type 0} (items : V → List ℕ) where
  -- the places in the bucket of a number, none where there is no bucket
  abbrev pub places_at : BTreeMap IVec V → IVec → List ℕ
  places_at m c = option_map_or items (get cell_cmp m c) []

  -- each bucket has the places of the boxes with a cell in it
  abbrev pub AreBuckets : List Corners → IVec → BTreeMap IVec V → Type 0
  AreBuckets boxes edge m = (c : IVec) → places_at m c ≡ places_of (λ a. holds (coarsened a edge) c) boxes

  -- what a finder keeps of its boxes
  pub record IsFinder (boxes : List Corners) (edge : IVec) (m : BTreeMap IVec V) : Type 0 where
    pub few : length boxes < 2 ^ 32
    pub whole : All IsBox boxes
    pub edge_is : edge ≡ edge_of boxes
    pub lengths : IsEdge edge
    pub buckets : AreBuckets boxes edge m

-- the places in the bucket with a number whose boxes meet a box
unfoldable pub found_in : List Corners → Corners → IVec → List ℕ
found_in boxes b c = filter (passes_at (λ a. meets a b) boxes) (places_of (λ a. holds (coarsened a (edge_of boxes)) c) boxes)

-- the places that a look into all buckets of a box finds
unfoldable pub near : List Corners → Corners → List ℕ
near boxes b = flat_map (λ c. found_in boxes b c) (cells_in (coarsened b (edge_of boxes)))
