use Rattle.samr_linear.specs.LinVal.{linear_value}
use Rattle.samr_linear.specs.LinearWriting.{any_takes}
use Rattle.samr_linear.proofs.PatchTasks.{rest_fits, small_step, same_step, all_fit, all_true, can, done, whole_value}
use Rattle.samr_linear.proofs.filling.fill_patch.Goals as goal

pub write_all-requires-clause-into : goal.write_all-requires-clause-into
write_all-requires-clause-into g c =
    rest_fits c.args.plan.now c.args.parcels.now c.args.strategy.now c.args.stencil.now c.args.base c.args.field_plan.now c.args.patch.now c.requires.parts.0 c.requires.parts.1 c.requires.parts.2
    c.in_ok-copy.copy c.in_ok-copy.ensures c.as_slice-rest.result.now c.as_slice-rest.ensures

pub write_all-requires-clause-small : goal.write_all-requires-clause-small
write_all-requires-clause-small g c =
    small_step c.args.plan.now c.args.parcels.now c.args.strategy.now c.args.stencil.now c.args.base c.args.field_plan.now c.args.patch.now c.requires.parts.0 c.requires.parts.1 c.requires.parts.2

pub write_all-requires-clause-same_step : goal.write_all-requires-clause-same_step
write_all-requires-clause-same_step g c =
    same_step c.args.plan.now c.args.parcels.now c.args.strategy.now c.args.stencil.now c.args.base c.args.field_plan.now c.args.patch.now c.requires.parts.0 c.requires.parts.1 c.requires.parts.2

pub for_box-own-requires : goal.for_box-own-requires
for_box-own-requires g c = c.requires.parts.2.has.ordered

pub write_all-requires-clause-fit : goal.write_all-requires-clause-fit
write_all-requires-clause-fit g c = λ p m.
    all_fit c.args.plan.now c.args.parcels.now c.args.strategy.now c.args.stencil.now c.args.base c.args.field_plan.now c.args.patch.now c.requires.parts.0 c.requires.parts.1 c.requires.parts.2
    c.in_ok-copy.copy c.in_ok-copy.ensures c.for_box-own.result.now c.for_box-own.ensures p m

pub ended-requires : goal.ended-requires
ended-requires g c = λ x h.
    let w = c.requires.parts.0 in
    let rank = c.requires.parts.1 in
    let task = c.requires.parts.2 in
    let plan = c.args.plan.now in
    let all = c.args.parcels.now in
    let r = c.args.strategy.now in
    let t = c.args.stencil.now in
    let b = c.args.base in
    let fp = c.args.field_plan.now in
    let p = c.args.patch.now in
    let l = c.as_slice-rest.result.now in
    let mine = c.for_box-own.result.now in
    can plan all r t b fp p w rank task c.in_ok-copy.copy c.write_all.new.patch (any_takes plan t.real l mine) c.in_ok-copy.ensures
    (c.in_ok-write_all.ensures (linear_value w.filling r w.stencil w.below) (λ q m. all_true plan all r t b fp p w rank task l c.as_slice-rest.ensures mine c.for_box-own.ensures q m)) x h

pub returns : goal.returns
returns g c = λ w rank task.
    let plan = c.args.plan.now in
    let all = c.args.parcels.now in
    let r = c.args.strategy.now in
    let t = c.args.stencil.now in
    let b = c.args.base in
    let fp = c.args.field_plan.now in
    let p = c.args.patch.now in
    let l = c.as_slice-rest.result.now in
    let mine = c.for_box-own.result.now in
    whole_value plan all r t b fp p w rank task c.in_ok-done.done
    (done plan all r t b fp p w rank task c.in_ok-copy.copy c.write_all.new.patch c.in_ok-done.done l c.as_slice-inside.result.now c.as_slice-rest.ensures c.as_slice-inside.ensures
    c.in_ok-copy.ensures mine c.for_box-own.ensures
    (c.in_ok-write_all.ensures (linear_value w.filling r w.stencil w.below) (λ q m. all_true plan all r t b fp p w rank task l c.as_slice-rest.ensures mine c.for_box-own.ensures q m))
    c.in_ok-done.ensures)
