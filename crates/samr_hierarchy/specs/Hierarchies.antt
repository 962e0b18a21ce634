-- A hierarchy: levels, a value of each field in each cell of each level, and what ghost cells have.
use Rattle.std.specs.Prelude.{ℕ, zero, suc, List, [], map, Option, Some, None, if◌then◌else◌}
use Rattle.std.specs.List.{enumerate_from}
use Rattle.samr_box.specs.declared.vector.IVec.{IVec}
use Rattle.samr_box.specs.Corners.{holds}
use Rattle.samr_level.specs.Refs.{Owned}
use Rattle.samr_level.specs.Levels.{own}
use Rattle.samr_data.specs.Grids.{Grid, grid_of}
use Rattle.samr_sched.specs.Ask.{Scheduling}
use Rattle.samr_fill.specs.Fill.{Filling}
use Rattle.samr_values.specs.Values.{Renewing}
use Rattle.samr_values.specs.Coarsen.{Coarsening}
use Rattle.samr_problem.specs.declared.field.Field.{Field}
use Rattle.samr_problem.specs.Fields.{Fields}
use Rattle.samr_mesh.specs.Domains.{area_of, step_of, ratio_to}
use Rattle.samr_mesh.specs.Meshes.{level_at}
use Rattle.samr_hierarchy.specs.Scales.{ratio_below, step_below, all_rules, fixed_of}

-- by level, field and cell
abbrev pub Values : Type 0
Values = ℕ → ℕ → IVec → ℕ

-- a cell of a patch's box has its value, one about the box what the last fill saw there, or 0
pub record Hierarchy : Type 0 where
  pub levels : List (List Owned)
  pub values : Values
  pub seen : Values

-- the level below a level
abbrev pub level_below : List (List Owned) → ℕ → List Owned
level_below levels zero = []
level_below levels (suc l) = level_at levels l

abbrev pub values_below : Values → ℕ → ℕ → IVec → ℕ
values_below values zero = λ f x. 0
values_below values (suc l) = values l

-- what a field's rules give, and nothing for a number that no field has
abbrev pub for_field : Option Field → (Field → ℕ) → ℕ
for_field (Some r) of = of r
for_field None of = 0

-- the schedule of a level
abbrev pub scheduling : Fields → ℕ → List (List Owned) → ℕ → Scheduling
scheduling p ranks levels l = record {
  ranks = ranks;
  region = area_of p;
  ratio = ratio_to p l;
  level = level_at levels l;
  width = p.width;
  below = ratio_below p l;
  step = step_below p l;
  coarser = level_below levels l;
  reach = p.width;
  ghosts = map (λ r. r.width) (all_rules p);
  fixed = fixed_of p;
}

-- the fill of a level
abbrev pub filling : Fields → ℕ → Hierarchy → ℕ → Filling
filling p ranks h l = record {
  schedule = scheduling p ranks h.levels l;
  rules = all_rules p;
  values = h.values l;
  coarse_values = values_below h.values l;
}

-- the values of a level that was made over level l, from the old level of its number and level l
abbrev pub renewing : Fields → ℕ → ℕ → List Owned → List Owned → List Owned → (ℕ → IVec → ℕ) → (ℕ → IVec → ℕ) → Renewing
renewing p ranks l news olds coarser values coarse_values = record {
  ranks = ranks;
  frame = (area_of p).frame;
  ratio = ratio_to p (suc l);
  below = ratio_to p l;
  step = step_of p l;
  news = news;
  olds = olds;
  coarser = coarser;
  width = p.width;
  reach = p.width;
  rules = all_rules p;
  values = values;
  coarse_values = coarse_values;
}

-- a rank's patches of a level
abbrev pub patch_of : Hierarchy → ℕ → ℕ × Field → Owned → Grid
patch_of h l f b = grid_of b.bx f.1.ghosts (λ x. (if holds b.bx x then h.values l f.0 x else h.seen l f.0 x))

unfoldable pub patches : Fields → Hierarchy → ℕ → ℕ → List (List Grid)
patches p h l rank = map (λ f. map (λ b. patch_of h l f b) (own rank (level_at h.levels l))) (enumerate_from 0 p.fields)

-- the coarsening of level l by the level over it
abbrev pub coarsening : Fields → ℕ → Hierarchy → ℕ → Coarsening
coarsening p ranks h l = record {
  ranks = ranks;
  frame = (area_of p).frame;
  ratio = ratio_to p l;
  step = step_of p l;
  fine = level_at h.levels (suc l);
  coarser = level_at h.levels l;
  width = p.width;
  rules = map (λ f. f.coarsen) p.fields;
  moduli = map (λ f. f.modulus) p.fields;
  fine_values = h.values (suc l);
  before = λ rank. patches p h l rank;
}
