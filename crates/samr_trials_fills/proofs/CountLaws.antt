-- The plans that ranks have before a fill are those of its schedule.
use Rattle.std.proofs.Common.{◌≡◌, ℕ, ap, length, get_or, arith, Some, slice_get}
use Rattle.std.proofs.lemmas.List.{length-map}
use Rattle.std.proofs.lemmas.Option.{slice_get_within, slice_get-get_or}
use Rattle.std.specs.Prelude.{List, []}
use Rattle.samr_data.specs.Grids.{Grid}
use Rattle.samr_sched.specs.declared.plan.Plan.{Plan}
use Rattle.samr_ops.specs.declared.rules.Rules.{Rules}
use Rattle.samr_fill.specs.Fill.{Filling}
use Rattle.samr_fill.specs.FillParts.{HasPatches}
use Rattle.samr_fill.specs.FillOnAll.{HaveAllPatches}
use Rattle.samr_trials_fills.specs.Plans.{ArePlans}

module _ (plans : List Plan) (own below : List (List (List Grid))) (rules : List Rules) (w : Filling) (h : HaveAllPatches plans own below rules w) where
  -- what a rank has beside its plan
  its_patches : (rank : ℕ) (plan : Plan) → slice_get plans rank ≡ Some plan → HasPatches rank w.schedule.ranks plan (get_or own rank []) (get_or below rank []) rules w rank
  its_patches rank plan there =
      let within = slice_get_within plans rank plan there in
      let count = h.all_plans in
      let mine = h.same_ranks in
      let others = h.all_coarser in
      h.part rank plan (get_or own rank []) (get_or below rank []) there
      (slice_get-get_or own rank [] (omega (arith, within, count, mine))) (slice_get-get_or below rank [] (omega (arith, within, count, others)))

  pub are_plans : ArePlans w.schedule plans
  are_plans rank plan there =
      let its = its_patches rank plan there in
      let few = its.is.few in
      let number = length-map w.rules (λ (r : Rules). r.width) in
      let ghosts = ap length its.is.widths in
      record {
        is = its.is.schedule;
        few = omega (arith, few, number, ghosts);
        same = its.same_plan;
      }
