use Rattle.std.proofs.Common.{◌∙◌, refl}
use Rattle.samr_box.specs.declared.vector.Axis.TheVariants.{J}
use Rattle.samr_sign.specs.Fields.{tagged}
use Rattle.samr_sign.proofs.Slices.{loop_starts, loop_goes_on, loop_ends, plane_inside}
use Rattle.samr_sign.proofs.field.TagField.mark_plane.Goals as goal

pub loop-y-init : goal.loop-y-init
loop-y-init c = record {
  bx = refl;
  cells = λ x. loop_starts J c.args.region (tagged c.args.self.now) x;
}

pub mark_row-requires-clause-inside : goal.mark_row-requires-clause-inside
mark_row-requires-clause-inside c =
    let below = rw c.length-y-end.ensures.value at c.loop-y-test.true in
    plane_inside J c.args.self.now.bx c.loop-y.self.bx c.args.region c.slice.result c.loop-y.y c.length-y-end.ensures.whole.order below c.loop-y.invariant.bx c.slice.ensures c.requires.inside

pub loop-y-preserved : goal.loop-y-preserved
loop-y-preserved c =
    let below = rw c.length-y-end.ensures.value at c.loop-y-test.true in
    record {
      bx = c.mark_row.ensures.bx ∙ c.loop-y.invariant.bx;
      cells = loop_goes_on J c.args.region c.slice.result c.loop-y.y (tagged c.args.self.now) (tagged c.loop-y.self) (tagged c.mark_row.new.self) c.length-y-end.ensures.whole.order below c.slice.ensures c.loop-y.invariant.cells c.mark_row.ensures.cells;
    }

pub returns-clause-cells : goal.returns-clause-cells
returns-clause-cells c =
    let end = rw c.length-y-end.ensures.value at c.loop-y-test.false in
    let most = rw c.length-y-end.ensures.value at c.loop-y.auto.y-end in
    loop_ends J c.args.region c.loop-y.y (tagged c.args.self.now) (tagged c.loop-y.self) end most c.loop-y.invariant.cells
