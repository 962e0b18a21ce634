use Rattle.std.proofs.Common.{◌≡◌, ◌∙◌, sym, ap, subst, ◌<◌, length, ℕ, get_or}
use Rattle.samr_sched.specs.declared.plan.FieldPlan.{FieldPlan}
use Rattle.samr_fill.proofs.FieldTasks.{field_below, patch_task}
use Rattle.samr_fill.proofs.filling.fill_box.Goals as goal

pub bounds-fields-from : goal.bounds-fields-from
bounds-fields-from g c =
    subst (λ (k : ℕ). k < length c.as_slice-fields.result.now) (sym c.from.ensures)
    (field_below c.args.plan.now c.args.parcels.now c.args.field c.args.strategy.now c.args.box_plan.now c.args.patch.now c.requires.0 c.requires.1 c.requires.2
    c.as_slice-fields.result.now c.as_slice-fields.ensures)

pub fill_patch-requires : goal.fill_patch-requires
fill_patch-requires g c =
    let fp = c.index-fields-from.result in
    let l = c.as_slice-fields.result.now in (
      c.requires.0,
      c.requires.1,
      patch_task c.args.plan.now c.args.parcels.now c.args.field c.args.strategy.now c.args.box_plan.now c.args.patch.now c.requires.0 c.requires.1 c.requires.2
          l c.as_slice-fields.ensures fp (c.index-fields-from.is ∙ ap (λ (k : ℕ). get_or l k fp) c.from.ensures),
    )

pub returns : goal.returns
returns g c = λ w r task.
    let fp = c.index-fields-from.result in
    let l = c.as_slice-fields.result.now in
    c.in_ok-filled.ensures w r
    (patch_task c.args.plan.now c.args.parcels.now c.args.field c.args.strategy.now c.args.box_plan.now c.args.patch.now w r task
    l c.as_slice-fields.ensures fp (c.index-fields-from.is ∙ ap (λ (k : ℕ). get_or l k fp) c.from.ensures))
