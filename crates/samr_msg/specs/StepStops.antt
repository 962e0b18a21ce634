-- The stages of a step beside its regrid: plans, fills, coarsenings.
use Rattle.std.specs.Prelude.{ℕ, ◌+◌, ◌-◌, Bool, true, ◌||◌, nat_eq, List, length, if◌then◌else◌}
use Rattle.samr_stage.specs.declared.label.Label.{Label}
use Rattle.samr_sched.specs.declared.plan.Request.{Request}
use Rattle.samr_sched.specs.AskRow.{ask_row}
use Rattle.samr_fill.specs.FillRow.{fill_row}
use Rattle.samr_data.specs.declared.parcel.Parcel.{Parcel}
use Rattle.samr_values.specs.CoarsenRow.{coarsen_row}
use Rattle.samr_mesh.specs.Meshes.{is_due}
use Rattle.samr_hierarchy.specs.Hierarchies.{Hierarchy, scheduling, filling, coarsening}
use Rattle.samr_hierarchy.specs.Passes.{updated, coarsened}
use Rattle.samr_phase.specs.Stretch.{Stop}
use Rattle.samr_msg.specs.Places.{AtStep, AtLevel, mesh_of, hierarchy_of}

abbrev pub level_label : ℕ → AtLevel → Label
level_label pass w = record { step = w.at.step; pass = pass; phase = 1; round = w.number }

abbrev pub next_level : AtLevel → AtLevel
next_level w = record { at = w.at; number = w.number + 1 }

-- plans are made anew at step 0 and where there was a regrid
abbrev pub makes_plans : AtStep → Bool
makes_plans w = nat_eq w.step 0 || is_due w.setting.problem w.step

-- 10: which cells of the level below each level above 0 asks for
abbrev pub cells_asked : Stop AtLevel AtLevel (List Request)
cells_asked = record {
  label = level_label 10;
  visits = λ w rank. true;
  says = λ w. ask_row (scheduling w.at.setting.problem w.at.setting.ranks (mesh_of w.at) w.number);
  after = next_level;
}

abbrev pub first_asked : AtStep → AtLevel
first_asked w = record { at = w; number = 1 }

abbrev pub asks_left : AtLevel → ℕ
asks_left w = (if makes_plans w.at then length (mesh_of w.at) else 1) - w.number

-- 11: the values of ghost cells, of all levels before any is updated
abbrev pub ghosts_told : Stop AtLevel AtLevel (List Parcel)
ghosts_told = record {
  label = level_label 11;
  visits = λ w rank. true;
  says = λ w. fill_row (filling w.at.setting.problem w.at.setting.ranks (hierarchy_of w.at) w.number);
  after = next_level;
}

abbrev pub first_filled : AtStep → AtLevel
first_filled w = record { at = w; number = 0 }

abbrev pub fills_left : AtLevel → ℕ
fills_left w = length (mesh_of w.at) - w.number

-- 12 and on: the values of cells under the next finer level, from the second finest level down; some have been made
abbrev pub updated_at : AtStep → Hierarchy
updated_at w = updated w.setting.problem w.setting.ranks (hierarchy_of w)

abbrev pub under_values_told : Stop AtLevel AtLevel (List Parcel)
under_values_told = record {
  label = λ w. record { step = w.at.step; pass = 12 + w.number; phase = 1; round = 0 };
  visits = λ w rank. true;
  says = λ w. coarsen_row (coarsening w.at.setting.problem w.at.setting.ranks
      (coarsened w.at.setting.problem w.at.setting.ranks (updated_at w.at) w.number) (length (mesh_of w.at) - 2 - w.number));
  after = next_level;
}

abbrev pub first_coarsened : AtStep → AtLevel
first_coarsened w = record { at = w; number = 0 }

abbrev pub coarsenings_left : AtLevel → ℕ
coarsenings_left w = length (mesh_of w.at) - 1 - w.number
