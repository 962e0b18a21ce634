-- Where a rank is in a regrid: the levels that it begins with, and the new ones that are made.
use Rattle.std.specs.Prelude.{◌≡◌, ℕ, zero, suc, ◌+◌, ◌-◌, ◌<◌, ◌^◌, nat_lt, List, [], ◌∷◌, map, length, take, drop, reverse, Option, Some, None, if◌then◌else◌}
use Rattle.std.specs.List.{range_with_len}
use Rattle.samr_level.specs.Levels.{own_boxes}
use Rattle.samr_problem.specs.Problems.{IsProblem}
use Rattle.samr_mesh.specs.Meshes.{level_at}
use Rattle.samr_mesh.specs.Soundness.{CanRun}
use Rattle.samr_mesh.specs.Stages.{IsAbove}
use Rattle.samr_hierarchy.specs.Hierarchies.{Hierarchy, patches}
use Rattle.samr_hierarchy.specs.Passes.{first_values}
use Rattle.samr_msg.specs.Runs.{Setting}
use Rattle.samr_msg.specs.Places.{AtStep, AtPass, mesh_of, mesh_before, hierarchy_before, hierarchy_of, passes_at_step}
use Rattle.samr_regrid.specs.declared.level.Level.{Level}
use Rattle.samr_regrid.specs.declared.level.Above.{Above}
use Rattle.samr_regrid.specs.Ranks.{pair_at, level_part, level_parts}

-- the hierarchy that a regrid begins with; at step 0 it grows by a level with each pass
abbrev pub standing : AtStep → ℕ → Hierarchy
standing w number = by w.step
  where
    by : ℕ → Hierarchy
    by zero = record {
      levels = take (number + 1) (mesh_of w);
      values = first_values w.setting.problem w.setting.ranks (mesh_of w);
      seen = λ l f x. 0;
    }
    by (suc t) = hierarchy_before w

-- a rank's part of the new level l, made over the old ones
abbrev pub above_part : AtStep → ℕ → ℕ → Above
above_part w rank l =
    let p = w.setting.problem in
    let new = level_at (mesh_of w) l in
    record {
      boxes = own_boxes rank new;
      selves = pair_at p new l new l rank;
      under = pair_at p new l (level_at (mesh_before w) (l - 1)) (l - 1) rank;
      cover = pair_at p new l (level_at (mesh_before w) (l - 2)) (l - 2) rank;
      patches = patches p (hierarchy_of w) l rank;
    }

-- the new levels before a later pass over the old level l: those from l + 2 up are made, and all but the lowest are whole
abbrev pub above_before : AtStep → ℕ → ℕ → Option Above
above_before w rank l = by w.step
  where
    by : ℕ → Option Above
    by zero = None
    by (suc t) = if nat_lt (l + 2) (length (mesh_of w)) then Some (above_part w rank (l + 2)) else None

unfoldable pub news_before : AtStep → ℕ → ℕ → List Level
news_before w rank l = by w.step
  where
    by : ℕ → List Level
    by zero = []
    by (suc t) = map (level_part w.setting.problem (hierarchy_of w) rank) (reverse (range_with_len (l + 3) (length (mesh_of w) - (l + 3))))

-- which rank it is, of which run, and at which step
pub record IsSeat (run : Setting) (rank step : ℕ) (w : AtStep) (r : ℕ) : Type 0 where
  pub same_run : run ≡ w.setting
  pub same_rank : rank ≡ r
  pub within : r < w.setting.ranks
  pub few : w.setting.ranks < 2 ^ 16
  pub same_step : step ≡ w.step
  pub problem : IsProblem w.setting.problem

-- the pass is the next of those of its step, and can be made
pub record IsPassOf (w : AtPass) : Type 0 where
  pub next : w.pass ∷ w.later ≡ drop w.number (passes_at_step w.at.setting w.at.step)
  pub same_ranks : w.pass.ranks ≡ w.at.setting.ranks
  pub same_step : w.pass.step ≡ w.at.step
  pub can : CanRun w.at.setting.problem w.pass
  pub above : IsAbove w.at.setting.problem w.pass
  pub few : w.pass.number + 1 < w.at.setting.problem.levels
  pub is_old : w.pass.number < length (standing w.at w.number).levels
  pub same_level : level_at (standing w.at w.number).levels w.pass.number ≡ w.pass.level

-- what a rank has before a pass
pub record HasLevels (pass level : ℕ) (olds : List Level) (above : Option Above) (news : List Level) (w : AtPass) (r : ℕ) : Type 0 where
  pub same_pass : pass ≡ w.number
  pub same_level : level ≡ w.pass.number
  pub same_olds : olds ≡ level_parts w.at.setting.problem (standing w.at w.number) r
  pub same_above : above ≡ above_before w.at r w.pass.number
  pub same_news : news ≡ news_before w.at r w.pass.number
