-- What all ranks have at first, in order of rank.
use Rattle.std.specs.Prelude.{◌≡◌, ℕ, List, length, Some, slice_get}
use Rattle.samr_data.specs.Grids.{Grid}
use Rattle.samr_ops.specs.declared.rules.Rules.{Rules}
use Rattle.samr_sched.specs.declared.plan.Plan.{Plan}
use Rattle.samr_fill.specs.Fill.{Filling}
use Rattle.samr_fill.specs.FillParts.{HasPatches}

-- plans, patches of the level and patches of the level below, one for each rank
pub record HaveAllPatches (plans : List Plan) (patches coarser : List (List (List Grid))) (rules : List Rules) (w : Filling) : Type 0 where
  pub same_ranks : length patches ≡ w.schedule.ranks
  pub all_plans : length plans ≡ w.schedule.ranks
  pub all_coarser : length coarser ≡ w.schedule.ranks
  pub part : (rank : ℕ) (plan : Plan) (own below : List (List Grid)) → slice_get plans rank ≡ Some plan → slice_get patches rank ≡ Some own → slice_get coarser rank ≡ Some below
      → HasPatches rank w.schedule.ranks plan own below rules w rank
