use Rattle.std.proofs.Common.{◌∙◌, arith, get_or}
use Rattle.std.specs.Prelude.{pos}
use Rattle.samr_box.specs.declared.vector.IVec.{IVec}
use Rattle.samr_box.specs.Vector.{alike}
use Rattle.samr_sched.specs.PlansOfParts.{field_by}
use Rattle.samr_sched.proofs.Plain.{numbered_more, same_item, taken}
use Rattle.samr_sched.proofs.making.field_plans.Goals as goal

pub loop-width-preserved : goal.loop-width-preserved
loop-width-preserved c =
    let ghosts = c.args.ghosts.now in
    let at = c.loop-width.width-index in
    let width : IVec = get_or ghosts at (alike (pos 0)) in (
      omega (arith, c.loop-width.invariant.0),
      numbered_more (λ f. field_by c.args.ground.now c.args.near.now c.args.under.now c.args.b f) ghosts at c.loop-width.field width
          c.loop-width.plans.items c.push.new.self.items c.in_ok-plan.plan c.loop-width-test.true
          (same_item ghosts at (alike (pos 0)) width c.loop-width-test.true)
          (c.loop-width.invariant.0 ∙ taken at ghosts c.loop-width-test.true)
          c.loop-width.invariant.1 c.in_ok-plan.ensures c.in_ok-push.ensures.items,
    )
