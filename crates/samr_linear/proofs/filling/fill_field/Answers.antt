use Rattle.std.proofs.Common.{◌∙◌, sym, ap, map, arith, ◌++◌}
use Rattle.std.proofs.lemmas.List.{take_all}
use Rattle.std.proofs.lemmas.Option.{get_or_from_slice_get}
use Rattle.std.specs.Prelude.{◌∷◌, []}
use Rattle.samr_boxlist.proofs.Steps.{map_step}
use Rattle.samr_level.specs.Refs.{Owned}
use Rattle.samr_level.specs.Levels.{own}
use Rattle.samr_data.specs.Grids.{Grid, grid_of}
use Rattle.samr_linear.specs.LinearFill.{value_of}
use Rattle.samr_linear.proofs.FieldTasks.{as_many, patch_below, box_at, box_task}
use Rattle.samr_linear.proofs.filling.fill_field.Goals as goal

pub bounds-patches-place : goal.bounds-patches-place
bounds-patches-place g c =
    patch_below c.args.plan.now c.args.parcels.now c.args.strategy.now c.args.stencil.now c.args.patches.now c.requires.parts.0 c.requires.parts.1 c.requires.parts.2
    c.as_slice-boxes.result.now c.as_slice-boxes.ensures c.loop-place.place c.loop-place-test.true

pub fill_box-requires-clause-parts : goal.fill_box-requires-clause-parts
fill_box-requires-clause-parts g c = (
  c.requires.parts.0,
  c.requires.parts.1,
  box_task c.args.plan.now c.args.parcels.now c.args.strategy.now c.args.stencil.now c.args.patches.now c.requires.parts.0 c.requires.parts.1 c.requires.parts.2
      c.as_slice-boxes.result.now c.as_slice-boxes.ensures c.loop-place.place c.index-boxes-place.result c.index-patches-place.result
      c.loop-place-test.true c.index-boxes-place.is c.index-patches-place.is,
)

pub loop-place-preserved : goal.loop-place-preserved
loop-place-preserved g c = (
  omega (arith, c.loop-place-test.true),
  λ w r h.
      let plan = c.args.plan.now in
      let all = c.args.parcels.now in
      let t = c.args.stencil.now in
      let s = c.args.strategy.now in
      let patches = c.args.patches.now in
      let l = c.as_slice-boxes.result.now in
      let place = c.loop-place.place in
      let bp = c.index-boxes-place.result in
      let boxes = own r w.filling.schedule.level in
      let at = box_at plan all s t patches w r h l c.as_slice-boxes.ensures place bp c.loop-place-test.true c.index-boxes-place.is in
      let many = as_many plan all s t patches w r h l c.as_slice-boxes.ensures in
      map_step boxes place bp.base (omega (arith, many, c.loop-place-test.true)) (sym (get_or_from_slice_get boxes place bp.base bp.base at.1))
      (λ b. grid_of b.bx w.rules.width (value_of w)) c.loop-place.filled.items c.push.new.self.items (c.loop-place.invariant.1 w r h)
      (c.in_ok-push.ensures.items
      ∙ ap (λ (p : Grid). c.loop-place.filled.items ++ p ∷ [])
      (c.in_ok-patch.ensures w r
      (box_task plan all s t patches w r h l c.as_slice-boxes.ensures place bp c.index-patches-place.result c.loop-place-test.true c.index-boxes-place.is c.index-patches-place.is))),
)

pub returns : goal.returns
returns g c = λ w r h.
    let t = c.args.stencil.now in
    let s = c.args.strategy.now in
    let boxes = own r w.filling.schedule.level in
    let many = as_many c.args.plan.now c.args.parcels.now s t c.args.patches.now w r h c.as_slice-boxes.result.now c.as_slice-boxes.ensures in
    c.loop-place.invariant.1 w r h
    ∙ ap (map (λ (b : Owned). grid_of b.bx w.rules.width (value_of w))) (take_all c.loop-place.place boxes (omega (arith, many, c.loop-place-test.false)))
