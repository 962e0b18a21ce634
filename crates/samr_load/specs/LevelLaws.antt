-- A balanced level is a level.
use Rattle.std.specs.Prelude.{◌≡◌, ℕ, ◌<◌, List, [], ◌∷◌, map}
use Rattle.samr_box.specs.Lists.{Member}
use Rattle.samr_level.specs.Refs.{Owned}
use Rattle.samr_level.specs.Levels.{own, IsLevel}
use Rattle.samr_level.specs.Regions.{Area}
use Rattle.samr_load.specs.Descent.{pieces_of}
use Rattle.samr_load.specs.Balanced.{balancing, owned_by, balanced}
use Rattle.samr_load.specs.Laws.{same_as}

-- the balanced list is a level, of which each rank has its pieces; and each box of the level that was balanced is there once,
-- so its pieces have its cells
pub record IsBalanced (area : Area) (ranks smallest : ℕ) (boxes : List Owned) : Type 0 where
  pub level : IsLevel area ranks (balanced ranks smallest boxes)
  pub own_part : (rank : ℕ) → rank < ranks
      → own rank (balanced ranks smallest boxes) ≡ map (owned_by rank) (pieces_of (balancing ranks smallest boxes) rank)
  pub once : (o : Owned) → Member o boxes → same_as o boxes ≡ o ∷ []

abbrev pub LevelsStayLevels : Type 0
LevelsStayLevels =
    (area : Area) (ranks smallest : ℕ) (boxes : List Owned) → 0 < smallest → IsLevel area ranks boxes → IsBalanced area ranks smallest boxes
