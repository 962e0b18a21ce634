-- What a rank has of a hierarchy: of each level its own boxes, their overlaps, and their patches.
use Rattle.std.specs.Prelude.{ℕ, zero, suc, List, map, length, Option, Some, None}
use Rattle.std.specs.List.{range_with_len}
use Rattle.samr_level.specs.declared.parts.Pair.{Pair}
use Rattle.samr_level.specs.Levels.{own_boxes}
use Rattle.samr_level.specs.Pairs.{pair}
use Rattle.samr_level.specs.Refs.{Owned}
use Rattle.samr_problem.specs.Fields.{Fields}
use Rattle.samr_mesh.specs.Domains.{area_of, ratio_to}
use Rattle.samr_mesh.specs.Meshes.{level_at}
use Rattle.samr_hierarchy.specs.Hierarchies.{Hierarchy, patches}
use Rattle.samr_regrid.specs.declared.level.Level.{Level}

-- the overlaps of its boxes of level l with level m, and back
abbrev pub pair_at : Fields → List Owned → ℕ → List Owned → ℕ → ℕ → Pair
pair_at p bases l heads m rank = pair (area_of p).frame p.width (ratio_to p l) (ratio_to p m) bases heads rank

-- those with the level below; level 0 has none
abbrev pub down_pair : Fields → List (List Owned) → ℕ → ℕ → Option Pair
down_pair p levels zero rank = None
down_pair p levels (suc l) rank = Some (pair_at p (level_at levels (suc l)) (suc l) (level_at levels l) l rank)

abbrev pub level_part : Fields → Hierarchy → ℕ → ℕ → Level
level_part p h rank l = record {
  boxes = own_boxes rank (level_at h.levels l);
  selves = pair_at p (level_at h.levels l) l (level_at h.levels l) l rank;
  down = down_pair p h.levels l rank;
  patches = patches p h l rank;
}

-- its part of all levels
unfoldable pub level_parts : Fields → Hierarchy → ℕ → List Level
level_parts p h rank = map (level_part p h rank) (range_with_len 0 (length h.levels))
