-- What a rank keeps of the steps that are over: the plans of its levels, and what it tells of each step.
use Rattle.std.specs.Prelude.{ℕ, zero, suc, List, [], map, length}
use Rattle.std.specs.List.{range_with_len}
use Rattle.samr_sched.specs.declared.plan.Plan.{Plan}
use Rattle.samr_sched.specs.Plans.{plan_of}
use Rattle.samr_level.specs.Refs.{Owned}
use Rattle.samr_problem.specs.Fields.{Fields}
use Rattle.samr_mesh.specs.Meshes.{mesh}
use Rattle.samr_hierarchy.specs.Hierarchies.{scheduling}
use Rattle.samr_hierarchy.specs.Passes.{after}
use Rattle.samr_report.specs.RankRows.{step_rows}
use Rattle.samr_msg.specs.Places.{AtStep}
use Rattle.samr_regrid.specs.declared.book.Book.{Book}

-- its plans of the levels of a mesh
unfoldable pub plans_of : Fields → ℕ → List (List Owned) → ℕ → List Plan
plans_of p ranks levels rank = map (λ l. plan_of (scheduling p ranks levels l) rank) (range_with_len 0 (length levels))

-- before a step
unfoldable pub book_before : AtStep → ℕ → Book
book_before w rank =
    let p = w.setting.problem in
    let ranks = w.setting.ranks in
    record {
      plans = plans_before p ranks w.step;
      steps = map (λ t. step_rows p ranks t (after p ranks (λ s. mesh p ranks s) t) rank) (range_with_len 0 w.step);
    }
  where
    plans_before : Fields → ℕ → ℕ → List Plan
    plans_before p ranks zero = []
    plans_before p ranks (suc t) = plans_of p ranks (mesh p ranks t) rank
