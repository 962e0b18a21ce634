use Rattle.std.proofs.Common.{◌∙◌, ap, sym, subst, arith, length, map}
use Rattle.std.proofs.lemmas.List.{length-map}
use Rattle.std.specs.Prelude.{List}
use Rattle.std.specs.List.{All}
use Rattle.samr_box.specs.declared.vector.IVec.{IVec}
use Rattle.samr_sched.specs.AskParts.{CanPlan}
use Rattle.samr_sched.proofs.PlanLaws.{can_plan}
use Rattle.samr_level.specs.Levels.{own}
use Rattle.samr_ops.specs.declared.rules.Rules.{Rules}
use Rattle.samr_trials_levels.specs.First.{first_fields, HasRooms}
use Rattle.samr_trials_levels.specs.Cover.{fine_start}
use Rattle.samr_trials_levels.proofs.Ranks.{count_ranks}
use Rattle.samr_trials_fills.specs.Fills.{schedule_of}
use Rattle.samr_trials_fills.proofs.FillLaws.{is_scheduling}
use Rattle.samr_trials_fills.proofs.FilledFrom.{have_from}
use Rattle.samr_trials_fills.proofs.prepared.made_ready.Goals as goal

pub plans_of-requires-clause-width : goal.plans_of-requires-clause-width
plans_of-requires-clause-width c = c.requires.in_range

pub plans_of-requires-clause-same : goal.plans_of-requires-clause-same
plans_of-requires-clause-same c = c.requires.same

pub plans_of-requires-clause-below : goal.plans_of-requires-clause-below
plans_of-requires-clause-below c = c.requires.below

pub plans_of-requires-clause-alone : goal.plans_of-requires-clause-alone
plans_of-requires-clause-alone c = c.requires.alone

pub plans_of-requires-clause-few : goal.plans_of-requires-clause-few
plans_of-requires-clause-few c =
    let few = c.requires.few in
    let count = ap length (c.as_slice-ghosts.ensures.value ∙ c.in_ok-widths.ensures) ∙ length-map c.args.rules.now (λ (r : Rules). r.width) in
    omega (arith, count, few)

pub plans_of-requires-clause-can : goal.plans_of-requires-clause-can
plans_of-requires-clause-can c =
    let widths = map (λ (r : Rules). r.width) c.args.rules.now in
    subst (λ (l : List IVec). CanPlan (schedule_of c.args.region.now c.args.step c.args.ranks c.args.width l c.args.fixed.now c.args.level.now c.args.coarser.now))
    (sym (c.as_slice-ghosts.ensures.value ∙ c.in_ok-widths.ensures))
    (can_plan (schedule_of c.args.region.now c.args.step c.args.ranks c.args.width widths c.args.fixed.now c.args.level.now c.args.coarser.now)
    (is_scheduling c.args.region.now c.args.step c.args.ranks c.args.width c.args.bound c.args.fixed.now c.args.rules.now c.args.level.now c.args.coarser.now c.requires))

pub all_patches-requires-clause-some : goal.all_patches-requires-clause-some
all_patches-requires-clause-some c = c.requires.fields.some

pub all_patches-requires-clause-rooms : goal.all_patches-requires-clause-rooms
all_patches-requires-clause-rooms c =
    subst (λ (l : List IVec). All (HasRooms c.args.level.now) l) (sym (c.as_slice-ghosts.ensures.value ∙ c.in_ok-widths.ensures)) c.requires.rooms

pub all_patches-requires-2-clause-some : goal.all_patches-requires-2-clause-some
all_patches-requires-2-clause-some c = c.requires.fields.some

pub all_patches-requires-2-clause-rooms : goal.all_patches-requires-2-clause-rooms
all_patches-requires-2-clause-rooms c =
    subst (λ (l : List IVec). All (HasRooms c.args.coarser.now) l) (sym (c.as_slice-ghosts.ensures.value ∙ c.in_ok-widths.ensures)) c.requires.coarse_rooms

pub returns : goal.returns
returns c =
    let ghosts = c.as_slice-ghosts.result.now in
    let count = count_ranks (λ rank. first_fields c.args.bound fine_start ghosts (own rank c.args.level.now)) c.args.ranks c.in_ok-own.own.items c.in_ok-own.ensures in
    record {
      few = omega (arith, count, c.ranges.ranks.fits);
      all = have_from c.args.region.now c.args.step c.args.ranks c.args.width c.args.bound c.args.fixed.now c.args.rules.now c.args.level.now c.args.coarser.now c.requires
          c.in_ok-plans.plans.items c.in_ok-own.own.items c.in_ok-below.below.items ghosts (c.as_slice-ghosts.ensures.value ∙ c.in_ok-widths.ensures)
          c.in_ok-plans.ensures.count c.in_ok-plans.ensures.plans c.in_ok-own.ensures c.in_ok-below.ensures;
    }
