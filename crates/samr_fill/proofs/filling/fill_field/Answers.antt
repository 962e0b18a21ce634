use Rattle.std.proofs.Common.{◌≡◌, ◌∙◌, ◌<◌, ◌≤◌, sym, ap, subst, length, ℕ, map, take, get_or, arith, ◌++◌}
use Rattle.std.proofs.lemmas.List.{take_all}
use Rattle.std.proofs.lemmas.Option.{get_or_from_slice_get}
use Rattle.std.specs.Prelude.{List, ◌∷◌, []}
use Rattle.samr_boxlist.proofs.Steps.{map_step}
use Rattle.samr_level.specs.Refs.{Owned}
use Rattle.samr_level.specs.Levels.{own}
use Rattle.samr_data.specs.Grids.{Grid, grid_of}
use Rattle.samr_fill.specs.Fill.{value_of}
use Rattle.samr_fill.proofs.FieldTasks.{as_many, patch_below, box_at, box_task}
use Rattle.samr_fill.proofs.filling.fill_field.Goals as goal

pub bounds-patches-place : goal.bounds-patches-place
bounds-patches-place g c =
    patch_below c.args.plan.now c.args.parcels.now c.args.field c.args.strategy.now c.args.patches.now c.requires.0 c.requires.1 c.requires.2
    c.as_slice-boxes.result.now c.as_slice-boxes.ensures c.loop-place.place c.loop-place-test.true

pub fill_box-requires : goal.fill_box-requires
fill_box-requires g c = (
  c.requires.0,
  c.requires.1,
  box_task c.args.plan.now c.args.parcels.now c.args.field c.args.strategy.now c.args.patches.now c.requires.0 c.requires.1 c.requires.2
      c.as_slice-boxes.result.now c.as_slice-boxes.ensures c.loop-place.place c.index-boxes-place.result c.index-patches-place.result
      c.loop-place-test.true c.index-boxes-place.is c.index-patches-place.is,
)

pub loop-place-preserved : goal.loop-place-preserved
loop-place-preserved g c = (
  omega (arith, c.loop-place-test.true),
  λ w r h.
      let plan = c.args.plan.now in
      let all = c.args.parcels.now in
      let n = c.args.field in
      let s = c.args.strategy.now in
      let patches = c.args.patches.now in
      let l = c.as_slice-boxes.result.now in
      let place = c.loop-place.place in
      let bp = c.index-boxes-place.result in
      let boxes = own r w.schedule.level in
      let at = box_at plan all n s patches w r h l c.as_slice-boxes.ensures place bp c.loop-place-test.true c.index-boxes-place.is in
      let many = as_many plan all n s patches w r h l c.as_slice-boxes.ensures in
      map_step boxes place bp.base (omega (arith, many, c.loop-place-test.true)) (sym (get_or_from_slice_get boxes place bp.base bp.base at.1))
      (λ b. grid_of b.bx s.width (value_of w (n, s))) c.loop-place.filled.items c.push.new.self.items (c.loop-place.invariant.1 w r h)
      (c.in_ok-push.ensures.items
      ∙ ap (λ (p : Grid). c.loop-place.filled.items ++ p ∷ [])
      (c.in_ok-patch.ensures w r
      (box_task plan all n s patches w r h l c.as_slice-boxes.ensures place bp c.index-patches-place.result c.loop-place-test.true c.index-boxes-place.is c.index-patches-place.is))),
)

pub returns : goal.returns
returns g c = λ w r h.
    let n = c.args.field in
    let s = c.args.strategy.now in
    let boxes = own r w.schedule.level in
    let many = as_many c.args.plan.now c.args.parcels.now n s c.args.patches.now w r h c.as_slice-boxes.result.now c.as_slice-boxes.ensures in
    c.loop-place.invariant.1 w r h
    ∙ ap (map (λ (b : Owned). grid_of b.bx s.width (value_of w (n, s)))) (take_all c.loop-place.place boxes (omega (arith, many, c.loop-place-test.false)))
