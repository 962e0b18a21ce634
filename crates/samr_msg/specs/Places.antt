-- Where a run is: at a step, at a pass of its regrid, and in a round of a stage of a pass.
use Rattle.std.specs.Prelude.{ℕ, zero, suc, ◌+◌, ◌-◌, List, [], ◌∷◌, reverse, if◌then◌else◌}
use Rattle.samr_stage.specs.declared.label.Label.{Label}
use Rattle.samr_level.specs.Refs.{Owned}
use Rattle.samr_mesh.specs.Meshes.{level_at, is_due, mesh}
use Rattle.samr_mesh.specs.Passes.{Pass}
use Rattle.samr_mesh.specs.PassLists.{first_passes, passes_of}
use Rattle.samr_hierarchy.specs.Hierarchies.{Hierarchy}
use Rattle.samr_hierarchy.specs.Passes as steps
use Rattle.samr_msg.specs.Runs.{Setting}

pub record AtStep : Type 0 where
  pub setting : Setting
  pub step : ℕ

-- a regrid on its way: how many passes it has made, and those that are left
pub record AtRegrid : Type 0 where
  pub at : AtStep
  pub number : ℕ
  pub left : List Pass

-- a pass, its number among those of its regrid, and those that come after it
pub record AtPass : Type 0 where
  pub at : AtStep
  pub number : ℕ
  pub pass : Pass
  pub later : List Pass

pub record AtRound : Type 0 where
  pub at : AtPass
  pub round : ℕ

-- a part of a pass that may be absent: how often it has been gone through
pub record AtPart : Type 0 where
  pub at : AtPass
  pub turns : ℕ

-- a level of a step, counted from the one that a stage begins with
pub record AtLevel : Type 0 where
  pub at : AtStep
  pub number : ℕ

-- the levels before a step, and after it
abbrev pub mesh_of : AtStep → List (List Owned)
mesh_of w = mesh w.setting.problem w.setting.ranks w.step

abbrev pub mesh_before : AtStep → List (List Owned)
mesh_before w = mesh w.setting.problem w.setting.ranks (w.step - 1)

-- the hierarchy before a step, and the one that it fills
abbrev pub hierarchy_before : AtStep → Hierarchy
hierarchy_before w = steps.after w.setting.problem w.setting.ranks (λ t. mesh w.setting.problem w.setting.ranks t) (w.step - 1)

abbrev pub hierarchy_of : AtStep → Hierarchy
hierarchy_of w = steps.begun w.setting.problem w.setting.ranks (hierarchy_before w) (mesh_of w) w.step

-- the passes of a step in the order in which they are made: of step 0 upwards, of a later one downwards, where it has a regrid
abbrev pub passes_at_step : Setting → ℕ → List Pass
passes_at_step s zero = first_passes s.problem s.ranks
passes_at_step s (suc t) =
    if is_due s.problem (suc t) then reverse (passes_of s.problem s.ranks (suc t) (mesh s.problem s.ranks t)) else []

abbrev pub regrid_of : AtStep → AtRegrid
regrid_of w = record { at = w; number = 0; left = passes_at_step w.setting w.step }

-- a pass that is none, for a regrid with nothing left
abbrev pub no_pass : Pass
no_pass = record { ranks = 0; step = 0; number = 0; level = []; above = [] }

abbrev pub next_pass : AtRegrid → AtPass
next_pass w = record { at = w.at; number = w.number; pass = first_of w.left; later = rest_of w.left }
  where
    first_of : List Pass → Pass
    first_of [] = no_pass
    first_of (pass ∷ later) = pass

    rest_of : List Pass → List Pass
    rest_of [] = []
    rest_of (pass ∷ later) = later

abbrev pub after_pass : AtPass → AtRegrid
after_pass w = record { at = w.at; number = w.number + 1; left = w.later }

-- the old level above the level of a pass, and the one below it; at step 0 there is none above
abbrev pub old_above : AtPass → List Owned
old_above w = above w.at.step
  where
    above : ℕ → List Owned
    above zero = []
    above (suc t) = level_at (mesh_before w.at) (w.pass.number + 1)

abbrev pub old_below : AtPass → List Owned
old_below w = level_at (mesh_before w.at) (w.pass.number - 1)

-- the labels: of a pass, of a round of one of its phases, and of a level
abbrev pub label_of : ℕ → AtPass → Label
label_of phase w = record { step = w.at.step; pass = w.number; phase = phase; round = 0 }

abbrev pub round_of : ℕ → AtRound → Label
round_of phase w = record { step = w.at.at.step; pass = w.at.number; phase = phase; round = w.round }

abbrev pub first_round : AtPass → AtRound
first_round w = record { at = w; round = 0 }

abbrev pub next_round : AtRound → AtRound
next_round w = record { at = w.at; round = w.round + 1 }

abbrev pub not_made : AtPass → AtPart
not_made w = record { at = w; turns = 0 }

abbrev pub gone_through : AtPass → AtPart
gone_through w = record { at = w; turns = 1 }
