use Rattle.samr_box.specs.declared.vector.Axis.TheVariants.{K}
use Rattle.samr_data.specs.Values.{moved_from}
use Rattle.samr_data.proofs.Slices.{loop_starts, loop_goes_on, loop_ends, CanCopy-slice, CanCopy-order}
use Rattle.samr_data.proofs.rows.copy_box.Goals as goal

pub loop-z-init : goal.loop-z-init
loop-z-init c =
    loop_starts K c.args.at c.args.region c.args.to.now (moved_from c.args.source c.args.from.now c.args.by)
    (CanCopy-order c.args.at c.args.region c.args.source c.args.by c.args.to.now c.args.from.now c.length-z-end.ensures.whole.order c.requires) c.requires.full

pub copy_plane-requires-clause-can : goal.copy_plane-requires-clause-can
copy_plane-requires-clause-can c =
    let below = rw c.length-z-end.ensures.value at c.loop-z-test.true in
    CanCopy-slice K c.args.at c.args.region c.args.source c.slice.result c.args.by c.args.to.now c.loop-z.to c.args.from.now c.loop-z.z
    c.length-z-end.ensures.whole.order below c.slice.ensures c.loop-z.auto.to c.requires

pub loop-z-preserved : goal.loop-z-preserved
loop-z-preserved c =
    let below = rw c.length-z-end.ensures.value at c.loop-z-test.true in
    loop_goes_on K c.args.at c.args.region c.slice.result c.args.to.now c.loop-z.to c.copy_plane.new.to (moved_from c.args.source c.args.from.now c.args.by) c.loop-z.z
    (CanCopy-order c.args.at c.args.region c.args.source c.args.by c.args.to.now c.args.from.now c.length-z-end.ensures.whole.order c.requires)
    c.length-z-end.ensures.whole.order below c.slice.ensures c.loop-z.invariant c.copy_plane.ensures

pub returns : goal.returns
returns c =
    let end = rw c.length-z-end.ensures.value at c.loop-z-test.false in
    loop_ends K c.args.at c.args.region c.args.to.now c.loop-z.to (moved_from c.args.source c.args.from.now c.args.by) c.loop-z.z
    (CanCopy-order c.args.at c.args.region c.args.source c.args.by c.args.to.now c.args.from.now c.length-z-end.ensures.whole.order c.requires) end c.loop-z.invariant
