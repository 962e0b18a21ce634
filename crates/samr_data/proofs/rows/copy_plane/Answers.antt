use Rattle.samr_box.specs.declared.vector.Axis.TheVariants.{J}
use Rattle.samr_data.specs.Values.{moved_from}
use Rattle.samr_data.proofs.Slices.{loop_starts, loop_goes_on, loop_ends, CanCopy-slice, CanCopy-order}
use Rattle.samr_data.proofs.rows.copy_plane.Goals as goal

pub loop-y-init : goal.loop-y-init
loop-y-init c =
    loop_starts J c.args.at c.args.region c.args.to.now (moved_from c.args.source c.args.from.now c.args.by)
    (CanCopy-order c.args.at c.args.region c.args.source c.args.by c.args.to.now c.args.from.now c.length-y-end.ensures.whole.order c.requires.can) c.requires.can.full

pub copy_row-requires-clause-can : goal.copy_row-requires-clause-can
copy_row-requires-clause-can c =
    let below = rw c.length-y-end.ensures.value at c.loop-y-test.true in
    CanCopy-slice J c.args.at c.args.region c.args.source c.slice.result c.args.by c.args.to.now c.loop-y.to c.args.from.now c.loop-y.y
    c.length-y-end.ensures.whole.order below c.slice.ensures c.loop-y.auto.to c.requires.can

pub loop-y-preserved : goal.loop-y-preserved
loop-y-preserved c =
    let below = rw c.length-y-end.ensures.value at c.loop-y-test.true in
    loop_goes_on J c.args.at c.args.region c.slice.result c.args.to.now c.loop-y.to c.copy_row.new.to (moved_from c.args.source c.args.from.now c.args.by) c.loop-y.y
    (CanCopy-order c.args.at c.args.region c.args.source c.args.by c.args.to.now c.args.from.now c.length-y-end.ensures.whole.order c.requires.can)
    c.length-y-end.ensures.whole.order below c.slice.ensures c.loop-y.invariant c.copy_row.ensures

pub returns : goal.returns
returns c =
    let end = rw c.length-y-end.ensures.value at c.loop-y-test.false in
    loop_ends J c.args.at c.args.region c.args.to.now c.loop-y.to (moved_from c.args.source c.args.from.now c.args.by) c.loop-y.y
    (CanCopy-order c.args.at c.args.region c.args.source c.args.by c.args.to.now c.args.from.now c.length-y-end.ensures.whole.order c.requires.can) end c.loop-y.invariant
