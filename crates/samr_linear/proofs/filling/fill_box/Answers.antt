use Rattle.samr_linear.proofs.FieldTasks.{field_below, patch_task}
use Rattle.samr_linear.proofs.filling.fill_box.Goals as goal

pub bounds-fields-0 : goal.bounds-fields-0
bounds-fields-0 g c =
    field_below c.args.plan.now c.args.parcels.now c.args.strategy.now c.args.stencil.now c.args.box_plan.now c.args.patch.now c.requires.parts.0 c.requires.parts.1 c.requires.parts.2
    c.as_slice-fields.result.now c.as_slice-fields.ensures

pub fill_patch-requires-clause-parts : goal.fill_patch-requires-clause-parts
fill_patch-requires-clause-parts g c =
    let fp = c.index-fields-0.result in
    let l = c.as_slice-fields.result.now in (
      c.requires.parts.0,
      c.requires.parts.1,
      patch_task c.args.plan.now c.args.parcels.now c.args.strategy.now c.args.stencil.now c.args.box_plan.now c.args.patch.now c.requires.parts.0 c.requires.parts.1 c.requires.parts.2
          l c.as_slice-fields.ensures fp c.index-fields-0.is,
    )

pub returns : goal.returns
returns g c = λ w r task.
    let fp = c.index-fields-0.result in
    let l = c.as_slice-fields.result.now in
    c.in_ok-filled.ensures w r
    (patch_task c.args.plan.now c.args.parcels.now c.args.strategy.now c.args.stencil.now c.args.box_plan.now c.args.patch.now w r task
    l c.as_slice-fields.ensures fp c.index-fields-0.is)
