-- Worked rows: a level of two boxes over one coarse box, a small level with a border of each kind, and a domain of two parts.
use Rattle.std.specs.Prelude.{◌≡◌, ℕ, ◌+◌, ◌*◌, ℤ, pos, negsuc, unsigned_abs, List, [], ◌∷◌}
use Rattle.samr_box.specs.declared.vector.IVec.{IVec}
use Rattle.samr_box.specs.Vector.{alike}
use Rattle.samr_box.specs.Corners.{Corners}
use Rattle.samr_box.specs.Ratios.{coarse}
use Rattle.samr_level.specs.Refs.{Owned}
use Rattle.samr_ops.specs.declared.rules.RefineRule.TheVariants.{Same}
use Rattle.samr_ops.specs.declared.rules.Rule.TheVariants.{Clamp}
use Rattle.samr_ops.specs.declared.rules.Rules.{Rules}
use Rattle.samr_ops.specs.Worked.{cell, bounded, flat_rules}
use Rattle.samr_sched.specs.Ask.{Scheduling}
use Rattle.samr_fill.specs.Fill.{Filling, value_of}

-- cells and boxes of the plane k = 0
abbrev pub flat : ℤ → ℤ → IVec
flat i j = cell i j (pos 0)

abbrev pub plane_box : ℕ → ℤ → ℤ → ℤ → ℤ → Owned
plane_box owner i j last_i last_j = record { owner = owner; bx = record { lo = flat i j; hi = flat last_i last_j } }

-- a value that tells the cell
abbrev pub told : ℕ → IVec → ℕ
told row x = unsigned_abs x.i + row * unsigned_abs x.j

abbrev pub rules_by : Rules
rules_by = record { modulus = 3000; width = flat (pos 1) (pos 1); centre = 1; face = 1; refine = Same; boundary = record { i = Clamp; j = Clamp; k = Clamp } }

-- a domain in the plane, its level 0 and the widths of one field
abbrev pub ground : IVec → List Corners → List Owned → List ℕ → Scheduling
ground size parts boxes fixed = record {
  ranks = 2;
  region = record { frame = bounded size; parts = parts };
  ratio = alike (pos 1);
  level = boxes;
  width = flat (pos 1) (pos 1);
  below = alike (pos 1);
  step = alike (pos 1);
  coarser = [];
  reach = flat (pos 1) (pos 1);
  ghosts = flat (pos 1) (pos 1) ∷ [];
  fixed = fixed;
}

-- two boxes of a level of ratio 2 over one box of level 0: each cell has the value of the cell over it
abbrev pub by_two : IVec
by_two = cell (pos 2) (pos 2) (pos 1)

abbrev pub two_levels : Filling
two_levels = record {
  schedule = record {
    ranks = 2;
    region = record { frame = bounded (cell (pos 8) (pos 8) (pos 1)); parts = [] };
    ratio = by_two;
    level = plane_box 0 (pos 8) (pos 6) (pos 9) (pos 9) ∷ plane_box 1 (pos 6) (pos 6) (pos 7) (pos 9) ∷ [];
    width = flat (pos 1) (pos 1);
    below = alike (pos 1);
    step = by_two;
    coarser = plane_box 0 (pos 0) (pos 0) (pos 7) (pos 7) ∷ [];
    reach = flat (pos 1) (pos 1);
    ghosts = flat (pos 1) (pos 1) ∷ [];
    fixed = [];
  };
  rules = rules_by ∷ [];
  values = λ f x. told 8 (coarse x by_two);
  coarse_values = λ f x. told 8 x;
}

-- two cells each way: a fixed value beyond i, and reflection beyond j
abbrev pub small_level : Filling
small_level = record {
  schedule = ground (cell (pos 2) (pos 2) (pos 1)) [] (plane_box 0 (pos 0) (pos 0) (pos 1) (pos 1) ∷ []) [];
  rules = flat_rules ∷ [];
  values = λ f x. 1 + told 10 x;
  coarse_values = λ f x. 0;
}

-- two parts of a frame, and a fixed value
abbrev pub two_parts : Filling
two_parts = record {
  schedule = ground (cell (pos 8) (pos 8) (pos 1))
      (record { lo = flat (pos 0) (pos 0); hi = flat (pos 3) (pos 7) } ∷ record { lo = flat (pos 4) (pos 0); hi = flat (pos 7) (pos 3) } ∷ [])
      (plane_box 0 (pos 0) (pos 0) (pos 3) (pos 3) ∷ plane_box 0 (pos 0) (pos 4) (pos 3) (pos 7) ∷ plane_box 1 (pos 4) (pos 0) (pos 7) (pos 3) ∷ []) (9 ∷ []);
  rules = rules_by ∷ [];
  values = λ f x. told 8 x;
  coarse_values = λ f x. 0;
}

-- the values of ghost cells
pub record ValuesOfRows : Type 0 where
  pub under_coarse : value_of two_levels (0, rules_by) (flat (pos 5) (pos 6)) ≡ 26
  pub of_the_other_box : value_of two_levels (0, rules_by) (flat (pos 8) (pos 6)) ≡ 28
  pub beyond_i : value_of small_level (0, flat_rules) (flat (negsuc 0) (negsuc 0)) ≡ 9
  pub beyond_j : value_of small_level (0, flat_rules) (flat (pos 0) (negsuc 0)) ≡ 1
  pub beyond_the_last_j : value_of small_level (0, flat_rules) (flat (pos 1) (pos 2)) ≡ 12
  pub between_parts : value_of two_parts (0, rules_by) (flat (pos 4) (pos 4)) ≡ 9
  pub of_the_other_part : value_of two_parts (0, rules_by) (flat (pos 4) (pos 3)) ≡ 28
