-- Worked rows: the four children of a cell along an axis, and the sums of ghost cells of two levels on two ranks.
use Rattle.std.specs.Prelude.{◌≡◌, pos, true, false, [], ◌∷◌}
use Rattle.samr_hierarchy.specs.Hierarchies.{Hierarchy}
use Rattle.samr_hierarchy.specs.Passes.{after}
use Rattle.samr_report.specs.Numbers.{two_levels, three_boxes, level_0, east, west}
use Rattle.samr_linear.specs.declared.linear.Linear.{Linear}
use Rattle.samr_linear.specs.Lin.{lin}
use Rattle.samr_linear.specs.LinearText.{ghost_sum}

abbrev pub hierarchy_of_row : Hierarchy
hierarchy_of_row = after two_levels 2 (λ t. three_boxes) 0

pub record LinearNumbers : Type 0 where
  pub coarse : ghost_sum two_levels 2 hierarchy_of_row 0 level_0 ≡ 1134
  pub east_of : ghost_sum two_levels 2 hierarchy_of_row 1 east ≡ 504
  pub west_of : ghost_sum two_levels 2 hierarchy_of_row 1 west ≡ 492

-- a value of 10 between 0 and 20 along i, by the ratio 4
pub record LinRow (s : Linear) : Type 0 where
  pub first : lin s 10 (0 ∷ 10 ∷ 0 ∷ []) (20 ∷ 10 ∷ 0 ∷ []) (record { k = pos 0; j = pos 0; i = pos 0 }) ≡ 6
  pub second : lin s 10 (0 ∷ 10 ∷ 0 ∷ []) (20 ∷ 10 ∷ 0 ∷ []) (record { k = pos 0; j = pos 0; i = pos 1 }) ≡ 8
  pub third : lin s 10 (0 ∷ 10 ∷ 0 ∷ []) (20 ∷ 10 ∷ 0 ∷ []) (record { k = pos 0; j = pos 0; i = pos 2 }) ≡ 11
  pub fourth : lin s 10 (0 ∷ 10 ∷ 0 ∷ []) (20 ∷ 10 ∷ 0 ∷ []) (record { k = pos 0; j = pos 0; i = pos 3 }) ≡ 13

abbrev pub rule_of_row : Linear
rule_of_row = record { modulus = 1000; ratio = record { k = pos 1; j = pos 4; i = pos 4 }; real = record { k = false; j = true; i = true } }
