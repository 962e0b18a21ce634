use Rattle.std.proofs.Common.{◌≡◌, arith}
use Rattle.samr_sched.specs.PlanRows.{rows_of}
use Rattle.samr_fill.proofs.FillOnAllLaws.{each_more}
use Rattle.samr_fill.proofs.FieldTasks.{there_at}
use Rattle.samr_trials_fills.proofs.counting.rows_of_plans.Goals as goal

pub plan_rows-requires : goal.plan_rows-requires
plan_rows-requires c =
    let w = c.requires.0 in
    let p = c.requires.1 c.loop-plan.plan-index c.plan-item.result (there_at c.args.plans.now c.loop-plan.plan-index c.plan-item.result c.loop-plan-test.true c.plan-item.is) in
    (w, c.loop-plan.plan-index, p.is, p.few, p.same)

pub loop-plan-preserved : goal.loop-plan-preserved
loop-plan-preserved c = (
  omega (arith, c.in_ok-push.ensures.len, c.loop-plan.invariant.0),
  λ w are.
      let p = are c.loop-plan.plan-index c.plan-item.result (there_at c.args.plans.now c.loop-plan.plan-index c.plan-item.result c.loop-plan-test.true c.plan-item.is) in
      each_more (λ rank out. out.items ≡ rows_of w rank) c.loop-plan.all.items c.push.new.self.items c.loop-plan.plan-index c.in_ok-list.list c.loop-plan.invariant.0
      (c.loop-plan.invariant.1 w are) (c.in_ok-list.ensures w c.loop-plan.plan-index p.is p.same) c.in_ok-push.ensures.items,
)

pub returns-clause-count : goal.returns-clause-count
returns-clause-count c = omega (arith, c.loop-plan.invariant.0, c.loop-plan-test.false, c.loop-plan.auto.plan-index-end)

pub returns-clause-rows : goal.returns-clause-rows
returns-clause-rows c = c.loop-plan.invariant.1
