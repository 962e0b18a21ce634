use Rattle.std.proofs.Common.{◌∙◌, ap, arith, ◌++◌}
use Rattle.std.proofs.lemmas.List.{take_all}
use Rattle.std.specs.Prelude.{List}
use Rattle.std.specs.List.{flat_map, enumerate_from}
use Rattle.samr_sched.specs.declared.plan.BoxPlan.{BoxPlan}
use Rattle.samr_fill.specs.Sending.{box_copies, all_copies}
use Rattle.samr_fill.proofs.Steps.{numbered_step}
use Rattle.samr_linear.proofs.sending.push_boxes.Goals as goal

pub loop-place-preserved : goal.loop-place-preserved
loop-place-preserved c = (
  numbered_step c.args.boxes.now c.loop-place.place c.index-boxes-place.result c.loop-place-test.true c.index-boxes-place.is
      (λ b. box_copies c.args.d.now c.args.to c.args.own.now b.0 b.1) c.args.out.now.items _ _ c.loop-place.invariant.0 c.in_ok-push_box.ensures,
  omega (arith, c.loop-place-test.true),
)

pub returns : goal.returns
unfolding all_copies
returns c =
    c.loop-place.invariant.0
    ∙ ap (λ (l : List BoxPlan). c.args.out.now.items ++ flat_map (λ b. box_copies c.args.d.now c.args.to c.args.own.now b.0 b.1) (enumerate_from 0 l))
    (take_all c.loop-place.place c.args.boxes.now c.loop-place-test.false)
