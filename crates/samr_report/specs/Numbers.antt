-- Numbers of problems that were worked by hand: rows of schedules, sums and single values.
use Rattle.std.specs.Prelude.{◌≡◌, ℕ, zero, suc, ℤ, pos, true, false, List, [], ◌∷◌}
use Rattle.samr_box.specs.declared.vector.IVec.{IVec}
use Rattle.samr_level.specs.Refs.{Owned}
use Rattle.samr_ops.specs.declared.rules.CoarsenRule.TheVariants.{First, Max, Sum}
use Rattle.samr_ops.specs.declared.rules.RefineRule.TheVariants.{Same, Ramp}
use Rattle.samr_ops.specs.declared.rules.Rule.{Rule}
use Rattle.samr_ops.specs.declared.rules.Rule.TheVariants.{Fixed, Clamp, Reflect}
use Rattle.samr_problem.specs.declared.field.Field.{Field}
use Rattle.samr_problem.specs.declared.probe.Probe.{Probe}
use Rattle.samr_problem.specs.Fields.{Fields}
use Rattle.samr_sched.specs.declared.row.Row.TheVariants.{Copy, Coarse, Outside}
use Rattle.samr_level.specs.Refs.{link}
use Rattle.samr_hierarchy.specs.Hierarchies.{scheduling}
use Rattle.samr_hierarchy.specs.Passes.{after}
use Rattle.samr_report.specs.ScheduleLines.{rows_at}
use Rattle.samr_report.specs.ValueLines.{sum_at}
use Rattle.samr_report.specs.Report.{edges_between}

abbrev pub flat : ℤ → ℤ → ℤ → IVec
flat i j k = record { k = k; j = j; i = i }

abbrev pub a_field : IVec → ℕ → ℕ → ℕ → ℕ → ℕ → ℕ → Rule → Rule → Field
a_field ghosts modulus first i j centre face along across = record {
  ghosts = ghosts;
  modulus = modulus;
  init = record { first = first; i = i; j = j; k = 0 };
  centre = centre;
  face = face;
  refine = Same;
  coarsen = First;
  boundary = record { i = along; j = across; k = Clamp };
}

abbrev pub a_problem : IVec → IVec → ℕ → List IVec → IVec → ℕ → List Field → List Probe → IVec → Fields
a_problem domain block levels ratio nest steps fields probes width = record {
  format = 1;
  dim = 2;
  domain = domain;
  periodic = record { k = false; j = false; i = false };
  block = block;
  levels = levels;
  ratio = ratio;
  nest = nest;
  tag_buffer = flat (pos 0) (pos 0) (pos 0);
  efficiency = 80;
  smallest = pos 1;
  largest = pos 64;
  tile = pos 0;
  regrid = 1;
  steps = steps;
  fields = fields;
  probes = probes;
  parts = [];
  shapes = [];
  width = width;
}

abbrev pub plane_box : ℕ → ℤ → ℤ → ℤ → ℤ → Owned
plane_box owner i j last_i last_j = record { owner = owner; bx = record { lo = flat i j (pos 0); hi = flat last_i last_j (pos 0) } }

-- two cells by two, with two fields
abbrev pub two_fields : Fields
two_fields = a_problem (flat (pos 2) (pos 2) (pos 1)) (flat (pos 4) (pos 4) (pos 1)) 1 [] (flat (pos 1) (pos 1) (pos 0)) 1
    (a_field (flat (pos 1) (pos 1) (pos 0)) 1000 1 1 10 1 1 (Fixed 9) Reflect ∷ a_field (flat (pos 1) (pos 0) (pos 0)) 1000000 7 1 0 2 0 Clamp Clamp ∷ [])
    (record { level = 0; cell = flat (pos 0) (pos 0) (pos 0) } ∷ []) (flat (pos 1) (pos 1) (pos 0))

abbrev pub four : Owned
four = plane_box 0 (pos 0) (pos 0) (pos 1) (pos 1)

abbrev pub four_cells : List (List Owned)
four_cells = (four ∷ []) ∷ []

pub record NumbersOfTwoFields : Type 0 where
  pub rows : rows_at (scheduling two_fields 1 four_cells 0) four ≡ Outside 0 four 12 ∷ Outside 1 four 4 ∷ []
  pub first : sum_at (after two_fields 1 (λ t. four_cells) 0) 0 0 four ≡ 26
  pub first_of_other : sum_at (after two_fields 1 (λ t. four_cells) 0) 1 0 four ≡ 30
  pub second : sum_at (after two_fields 1 (λ t. four_cells) 1) 0 0 four ≡ 140
  pub second_of_other : sum_at (after two_fields 1 (λ t. four_cells) 1) 1 0 four ≡ 60
  pub probe : (after two_fields 1 (λ t. four_cells) 1).values 0 0 (flat (pos 0) (pos 0) (pos 0)) ≡ 24
  pub probe_of_other : (after two_fields 1 (λ t. four_cells) 1).values 0 1 (flat (pos 0) (pos 0) (pos 0)) ≡ 14

-- two levels on two ranks
abbrev pub two_levels : Fields
two_levels = a_problem (flat (pos 8) (pos 8) (pos 1)) (flat (pos 8) (pos 8) (pos 1)) 2 (flat (pos 2) (pos 2) (pos 1) ∷ []) (flat (pos 1) (pos 1) (pos 0)) 0
    (a_field (flat (pos 1) (pos 1) (pos 0)) 3000 0 1 8 1 0 Clamp Clamp ∷ []) [] (flat (pos 1) (pos 1) (pos 0))

abbrev pub level_0 : Owned
level_0 = plane_box 0 (pos 0) (pos 0) (pos 7) (pos 7)

abbrev pub east : Owned
east = plane_box 0 (pos 8) (pos 6) (pos 9) (pos 9)

abbrev pub west : Owned
west = plane_box 1 (pos 6) (pos 6) (pos 7) (pos 9)

abbrev pub three_boxes : List (List Owned)
three_boxes = (level_0 ∷ []) ∷ (east ∷ west ∷ []) ∷ []

pub record NumbersOfTwoLevels : Type 0 where
  pub coarse_rows : rows_at (scheduling two_levels 2 three_boxes 0) level_0 ≡ Outside 0 level_0 36 ∷ []
  pub rows : rows_at (scheduling two_levels 2 three_boxes 1) east ≡ Copy 0 east west (flat (pos 0) (pos 0) (pos 0)) 4 ∷ Coarse 0 east level_0 (flat (pos 0) (pos 0) (pos 0)) 12 ∷ []
  pub sum : sum_at (after two_levels 2 (λ t. three_boxes) 0) 0 0 level_0 ≡ 2016
  pub east_sum : sum_at (after two_levels 2 (λ t. three_boxes) 0) 0 1 east ≡ 256
  pub west_sum : sum_at (after two_levels 2 (λ t. three_boxes) 0) 0 1 west ≡ 248
  pub edges : edges_between two_levels three_boxes 1 0 ≡ link east level_0 (flat (pos 0) (pos 0) (pos 0)) ∷ link west level_0 (flat (pos 0) (pos 0) (pos 0)) ∷ []

-- a level that moves, over a domain that is periodic on one axis
abbrev pub moving_field : Field
moving_field = record (a_field (flat (pos 1) (pos 1) (pos 0)) 3000 5 1 8 2 1 (Fixed 7) Clamp) { refine = Ramp; coarsen = Max }

abbrev pub other_field : Field
other_field = record (a_field (flat (pos 1) (pos 1) (pos 0)) 1000 3 2 1 1 3 Reflect Clamp) { coarsen = Sum }

abbrev pub moving : Fields
moving = record (a_problem (flat (pos 8) (pos 8) (pos 1)) (flat (pos 8) (pos 8) (pos 1)) 2 (flat (pos 2) (pos 2) (pos 1) ∷ []) (flat (pos 1) (pos 1) (pos 0)) 2
    (moving_field ∷ other_field ∷ []) [] (flat (pos 1) (pos 1) (pos 0))) { periodic = record { k = false; j = true; i = false } }

abbrev pub moving_mesh : ℕ → List (List Owned)
moving_mesh zero = (level_0 ∷ []) ∷ (plane_box 0 (pos 6) (pos 6) (pos 9) (pos 9) ∷ []) ∷ []
moving_mesh (suc t) = (level_0 ∷ []) ∷ (plane_box 0 (pos 8) (pos 6) (pos 11) (pos 9) ∷ []) ∷ []

abbrev pub moved : ℕ → ℕ → ℕ → ℤ → ℤ → ℕ
moved t l f i j = (after moving 2 moving_mesh t).values l f (flat i j (pos 0))

pub record NumbersOfMoving : Type 0 where
  pub merged : moved 1 0 0 (pos 4) (pos 4) ≡ 263
  pub merged_too : moved 1 0 0 (pos 5) (pos 3) ≡ 221
  pub not_merged : moved 1 0 0 (pos 3) (pos 3) ≡ 192
  pub at_the_border : moved 1 0 0 (pos 0) (pos 4) ≡ 193
  pub round_the_border : moved 1 0 0 (pos 7) (pos 0) ≡ 130
  pub of_the_old : moved 1 1 0 (pos 8) (pos 6) ≡ 193
  pub of_the_old_too : moved 1 1 0 (pos 9) (pos 9) ≡ 263
  pub of_the_new : moved 1 1 0 (pos 10) (pos 7) ≡ 217
  pub of_the_new_too : moved 1 1 0 (pos 11) (pos 8) ≡ 251
  pub summed : moved 1 0 1 (pos 4) (pos 4) ≡ 780
  pub summed_too : moved 1 0 1 (pos 5) (pos 3) ≡ 832
  pub reflected : moved 1 0 1 (pos 0) (pos 4) ≡ 97
  pub reflected_and_round : moved 1 0 1 (pos 7) (pos 0) ≡ 239
  pub other_of_the_old : moved 1 1 1 (pos 8) (pos 6) ≡ 173
  pub other_of_the_new : moved 1 1 1 (pos 10) (pos 7) ≡ 205
