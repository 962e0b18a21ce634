-- Worked rows: a level of two boxes over level 0 of 8 x 8 cells, whose values count its cells.
use Rattle.std.specs.Prelude.{◌≡◌, ℕ, ◌+◌, ◌*◌, ℤ, pos, false, unsigned_abs, List, [], ◌∷◌}
use Rattle.samr_box.specs.declared.vector.IVec.{IVec}
use Rattle.samr_box.specs.Vector.{alike}
use Rattle.samr_box.specs.Space.{Space}
use Rattle.samr_level.specs.Refs.{Owned}
use Rattle.samr_data.specs.Grids.{Grid, grid_of, value_at}
use Rattle.samr_ops.specs.declared.rules.CoarsenRule.{CoarsenRule}
use Rattle.samr_ops.specs.declared.rules.CoarsenRule.TheVariants.{First, Max, Sum}
use Rattle.samr_ops.specs.declared.rules.RefineRule.{RefineRule}
use Rattle.samr_ops.specs.declared.rules.RefineRule.TheVariants.{Same, Ramp}
use Rattle.samr_ops.specs.declared.rules.Rule.TheVariants.{Clamp}
use Rattle.samr_ops.specs.declared.rules.Rules.{Rules}
use Rattle.samr_values.specs.Values.{Renewing, new_value}
use Rattle.samr_values.specs.Coarsen.{Coarsening, after}

-- cells and boxes of the plane k = 0
abbrev pub flat : ℤ → ℤ → IVec
flat i j = record { k = pos 0; j = j; i = i }

abbrev pub plane_box : ℕ → ℤ → ℤ → ℤ → ℤ → Owned
plane_box owner i j last_i last_j = record { owner = owner; bx = record { lo = flat i j; hi = flat last_i last_j } }

abbrev pub frame : Space
frame = record { size = record { k = pos 1; j = pos 8; i = pos 8 }; periodic = record { k = false; j = false; i = false } }

abbrev pub by_two : IVec
by_two = record { k = pos 1; j = pos 2; i = pos 2 }

abbrev pub two_boxes : List Owned
two_boxes = plane_box 0 (pos 8) (pos 6) (pos 9) (pos 9) ∷ plane_box 1 (pos 6) (pos 6) (pos 7) (pos 9) ∷ []

abbrev pub level_0 : List Owned
level_0 = plane_box 0 (pos 0) (pos 0) (pos 7) (pos 7) ∷ []

-- a value that tells the cell of level 0
abbrev pub told : IVec → ℕ
told x = unsigned_abs x.i + 8 * unsigned_abs x.j

abbrev pub rules_of : RefineRule → Rules
rules_of refine = record {
  modulus = 3000;
  width = flat (pos 1) (pos 1);
  centre = 1;
  face = 1;
  refine = refine;
  boundary = record { i = Clamp; j = Clamp; k = Clamp };
}

-- the new level of the two boxes, where the old level of its number had some boxes
abbrev pub made_over : List Owned → Renewing
made_over olds = record {
  ranks = 2;
  frame = frame;
  ratio = by_two;
  below = alike (pos 1);
  step = by_two;
  news = two_boxes;
  olds = olds;
  coarser = level_0;
  width = flat (pos 1) (pos 1);
  reach = flat (pos 1) (pos 1);
  rules = rules_of Same ∷ [];
  values = λ f x. 900 + unsigned_abs x.i;
  coarse_values = λ f x. told x;
}

-- level 0 under them, where the fine cells count from 500 along a row of 20
abbrev pub under_two : Coarsening
under_two = record {
  ranks = 2;
  frame = frame;
  ratio = alike (pos 1);
  step = by_two;
  fine = two_boxes;
  coarser = level_0;
  width = flat (pos 1) (pos 1);
  rules = First ∷ [];
  moduli = 3000 ∷ [];
  fine_values = λ f x. 500 + unsigned_abs x.i + 20 * unsigned_abs x.j;
  before = λ r. [];
}

abbrev pub patch_0 : Grid
patch_0 = grid_of (record { lo = flat (pos 0) (pos 0); hi = flat (pos 7) (pos 7) }) (flat (pos 1) (pos 1)) told

-- the value of a cell of level 0 afterwards
abbrev pub coarse_after : CoarsenRule → ℕ → IVec → ℕ
coarse_after rule modulus x = value_at (after under_two (0, (rule, modulus)) patch_0) x

pub record ValuesOfRows : Type 0 where
  pub of_the_coarse_cell : new_value (made_over []) (0, rules_of Same) (flat (pos 8) (pos 6)) ≡ 28
  pub of_the_next_row : new_value (made_over []) (0, rules_of Same) (flat (pos 9) (pos 8)) ≡ 36
  pub of_the_other_box : new_value (made_over []) (0, rules_of Same) (flat (pos 7) (pos 7)) ≡ 27
  pub of_its_last_cell : new_value (made_over []) (0, rules_of Same) (flat (pos 7) (pos 9)) ≡ 35
  pub on_a_ramp : new_value (made_over []) (0, rules_of Ramp) (flat (pos 9) (pos 7)) ≡ 30
  pub of_the_old_level : new_value (made_over (plane_box 0 (pos 8) (pos 8) (pos 9) (pos 9) ∷ [])) (0, rules_of Same) (flat (pos 9) (pos 8)) ≡ 909
  pub beside_the_old_level : new_value (made_over (plane_box 0 (pos 8) (pos 8) (pos 9) (pos 9) ∷ [])) (0, rules_of Same) (flat (pos 9) (pos 7)) ≡ 28
  pub first_of_four : coarse_after First 3000 (flat (pos 4) (pos 3)) ≡ 628
  pub greatest_of_four : coarse_after Max 3000 (flat (pos 4) (pos 3)) ≡ 649
  pub sum_of_four : coarse_after Sum 3000 (flat (pos 4) (pos 3)) ≡ 2554
  pub sum_modulo : coarse_after Sum 1000 (flat (pos 4) (pos 3)) ≡ 554
  pub not_under : coarse_after First 3000 (flat (pos 5) (pos 3)) ≡ 29
  pub in_a_ghost_cell : coarse_after First 3000 (flat (pos 8) (pos 3)) ≡ 32
