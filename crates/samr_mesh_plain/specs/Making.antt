-- What a pass is made over, and the levels of a regrid.
use Rattle.std.specs.Prelude.{ℕ, suc, ◌+◌, ◌<◌, ◌≤◌, Bool, List, [], ◌∷◌, length}
use Rattle.std.specs.List.{list_any}
use Rattle.samr_box.specs.declared.vector.IVec.{IVec}
use Rattle.samr_box.specs.Corners.{Corners, holds}
use Rattle.samr_box.specs.Space.{image}
use Rattle.samr_level.specs.Refs.{Owned}
use Rattle.samr_level.specs.Levels.{IsLevel}
use Rattle.samr_level.specs.Overlaps.{shifts}
use Rattle.samr_problem.specs.Fields.{Fields}
use Rattle.samr_tags.specs.Cover.{covering}
use Rattle.samr_mesh.specs.Domains.{step_of, area_at, frame_at}
use Rattle.samr_mesh.specs.Passes.{Pass}
use Rattle.samr_mesh.specs.Soundness.{IsOver}
use Rattle.samr_mesh.specs.Stages.{IsAbove}

-- a cell as a box
abbrev pub one_cell : IVec → Corners
one_cell x = record { lo = x; hi = x }

-- a level, over which there may be a finer one, and what is above that one
pub record CanMake (p : Fields) (w : Pass) : Type 0 where
  pub below : suc (suc w.number) ≤ p.levels
  pub some : 0 < w.ranks
  pub is_level : IsLevel (area_at p w.number) w.ranks w.level
  pub above : IsAbove p w

-- each of some levels is one over that before it, the first over the one with this number
abbrev pub AreHigher : Fields → ℕ → ℕ → List Owned → List (List Owned) → Type 0
AreHigher p ranks l below [] = Unit {0}
AreHigher p ranks l below (level ∷ finer) = IsOver p ranks l below level × AreHigher p ranks (suc l) level finer

-- levels one over the other, of which the first has this number, and over each of which there may be a finer one
abbrev pub AreFrom : Fields → ℕ → ℕ → List (List Owned) → Type 0
AreFrom p ranks l [] = Unit {0}
AreFrom p ranks l (level ∷ finer) = IsLevel (area_at p l) ranks level × AreHigher p ranks l level finer × (suc (suc (l + length finer)) ≤ p.levels)

-- a cell lies in an image of what a box of the new level two above needs
abbrev pub covers : Fields → Pass → IVec → Owned → Bool
covers p w x b =
    list_any (λ s. holds (image (frame_at p w.number) (covering (step_of p (suc w.number)) p.nest (step_of p w.number) b.bx) s) x) (shifts p.periodic)
