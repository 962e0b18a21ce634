-- The patches of a rank's boxes of a level, field by field and box by box.
use Rattle.std.specs.Prelude.{◌≡◌, ◌⊎◌, ℕ, Bool, cond, List, [], length, map, Some, slice_get}
use Rattle.std.specs.List.{list_any}
use Rattle.std.specs.List.Sorted.{IsStrictlySortedBy}
use Rattle.samr_box.specs.declared.vector.IVec.{IVec}
use Rattle.samr_box.specs.Vector.{minus, times}
use Rattle.samr_box.specs.Corners.{Holds, holds}
use Rattle.samr_box.specs.Ratios.{coarse}
use Rattle.samr_box.specs.Orders.{corner_cmp}
use Rattle.samr_box.specs.Lists.{Member}
use Rattle.samr_level.specs.Refs.{Owned, Link}
use Rattle.samr_data.specs.Grids.{Grid, written, value_at}

-- the boxes of the patches have these values; nothing is said of their ghost cells
abbrev pub HasField : (IVec → ℕ) → List Grid → Type 0
HasField v patches = (p : Grid) (x : IVec) → Member p patches → Holds p.bx x → value_at p x ≡ v x

abbrev pub HaveFields : (ℕ → IVec → ℕ) → List (List Grid) → Type 0
HaveFields values patches = (f : ℕ) (field : List Grid) → slice_get patches f ≡ Some field → HasField (values f) field

-- the patches of a rank, field by field and box by box
pub record HasValues (values : ℕ → IVec → ℕ) (boxes : List Owned) (patches : List (List Grid)) : Type 0 where
  pub full : (f : ℕ) (field : List Grid) → slice_get patches f ≡ Some field → map (λ p. p.bx) field ≡ map (λ b. b.bx) boxes
  pub same : HaveFields values patches

-- the patches of a field stand in corner order, and the bases of the edges have one; so for each field
pub record IsBased (edges : List Link) (field : List Grid) : Type 0 where
  pub order : IsStrictlySortedBy corner_cmp (map (λ p. p.bx) field)
  pub there : (e : Link) → Member e edges → Member e.base.bx (map (λ p. p.bx) field)

abbrev pub AreBased : List Link → List (List Grid) → Type 0
AreBased edges patches = (f : ℕ) (field : List Grid) → slice_get patches f ≡ Some field → IsBased edges field

-- patches of so many fields at the bases of edges; where there are no edges, none will do
abbrev pub HaveNumber : List Link → List (List Grid) → ℕ → Type 0
HaveNumber edges patches n = ((edges ≡ []) × (patches ≡ [])) ⊎ (length patches ≡ n)

-- a box of the list has the cell
abbrev pub has : List Owned → IVec → Bool
has level x = list_any (λ b. holds b.bx x) level

-- where a fine cell lies in its coarse cell
abbrev pub child : IVec → IVec → IVec
child x step = minus x (times (coarse x step) step)

-- a patch with new values where a test holds
abbrev pub poured : Grid → (IVec → Bool) → (IVec → ℕ) → Grid
poured p test v = written p (λ x. cond (test x) (v x) (value_at p x))
