use Rattle.samr_box.proofs.Ranges.{InRange-lo, InRange-hi, FitsVector-plus}
use Rattle.samr_nest.proofs.Moved.{AtMost-plus, AtMost-grown}
use Rattle.samr_fill.proofs.Corners.{wide-plus, fits-minus, fits-plus}
use Rattle.samr_linear.proofs.parts.near_image.Goals as goal

pub minus-lo-requires : goal.minus-lo-requires
minus-lo-requires c = rw c.plus.ensures (fits-minus (wide-plus (InRange-lo c.head.invariant) c.offset-step.ensures.small) c.requires)

pub plus-requires-2 : goal.plus-requires-2
plus-requires-2 c = FitsVector-plus (InRange-hi c.head.invariant) c.offset-step.ensures.small

pub plus-hi-requires : goal.plus-hi-requires
plus-hi-requires c = rw c.plus-2.ensures (fits-plus (wide-plus (InRange-hi c.head.invariant) c.offset-step.ensures.small) c.requires)

pub part_of-requires : goal.part_of-requires
part_of-requires c =
    rw (c.minus-lo.ensures, c.plus-hi.ensures, c.plus.ensures, c.plus-2.ensures)
    (AtMost-grown _ _ c.args.width c.requires.low (AtMost-plus c.head.inside.lo c.head.inside.hi c.offset-step.result c.head.invariant.order))
