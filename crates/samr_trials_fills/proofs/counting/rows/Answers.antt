use Rattle.std.proofs.Common.{◌∙◌, ap, length, sym, subst}
use Rattle.std.specs.Prelude.{List}
use Rattle.samr_sched.specs.declared.plan.Plan.{Plan}
use Rattle.samr_trials_fills.specs.Plans.{ArePlans}
use Rattle.samr_trials_fills.proofs.CountLaws.{are_plans}
use Rattle.samr_trials_fills.proofs.counting.rows.Goals as goal

pub rows_of_plans-requires : goal.rows_of_plans-requires
rows_of_plans-requires c =
    let w = c.requires.0 in
    let p = c.args.ready.now in
    (w.schedule, subst (λ (l : List Plan). ArePlans w.schedule l) (sym c.as_slice.ensures.value) (are_plans p.plans.items p.own.items p.below.items c.requires.1 w c.requires.2.all))

pub returns : goal.returns
returns c = λ w rules ready.
    let p = c.args.ready.now in (
      c.in_ok-all.ensures.count ∙ ap length c.as_slice.ensures.value ∙ ready.all.all_plans,
      c.in_ok-all.ensures.rows w.schedule (subst (λ (l : List Plan). ArePlans w.schedule l) (sym c.as_slice.ensures.value) (are_plans p.plans.items p.own.items p.below.items rules w ready.all)),
    )
