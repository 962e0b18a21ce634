use Rattle.std.proofs.Common.{◌∙◌, refl}
use Rattle.samr_box.specs.declared.vector.Axis.TheVariants.{K}
use Rattle.samr_sign.specs.Fields.{tagged}
use Rattle.samr_sign.proofs.Slices.{loop_starts, loop_goes_on, loop_ends, plane_inside}
use Rattle.samr_sign.proofs.field.TagField.mark.Goals as goal

pub loop-z-init : goal.loop-z-init
loop-z-init c = record {
  bx = refl;
  cells = λ x. loop_starts K c.args.region (tagged c.args.self.now) x;
}

pub mark_plane-requires-clause-inside : goal.mark_plane-requires-clause-inside
mark_plane-requires-clause-inside c =
    let below = rw c.length-z-end.ensures.value at c.loop-z-test.true in
    plane_inside K c.args.self.now.bx c.loop-z.self.bx c.args.region c.slice.result c.loop-z.z c.length-z-end.ensures.whole.order below c.loop-z.invariant.bx c.slice.ensures c.requires

pub loop-z-preserved : goal.loop-z-preserved
loop-z-preserved c =
    let below = rw c.length-z-end.ensures.value at c.loop-z-test.true in
    record {
      bx = c.mark_plane.ensures.bx ∙ c.loop-z.invariant.bx;
      cells = loop_goes_on K c.args.region c.slice.result c.loop-z.z (tagged c.args.self.now) (tagged c.loop-z.self) (tagged c.mark_plane.new.self) c.length-z-end.ensures.whole.order below c.slice.ensures c.loop-z.invariant.cells c.mark_plane.ensures.cells;
    }

pub returns-clause-cells : goal.returns-clause-cells
returns-clause-cells c =
    let end = rw c.length-z-end.ensures.value at c.loop-z-test.false in
    let most = rw c.length-z-end.ensures.value at c.loop-z.auto.z-end in
    loop_ends K c.args.region c.loop-z.z (tagged c.args.self.now) (tagged c.loop-z.self) end most c.loop-z.invariant.cells
