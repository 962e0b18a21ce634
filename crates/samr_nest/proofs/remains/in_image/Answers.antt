use Rattle.samr_box.proofs.Ranges.{InRange-lo, InRange-hi, FitsVector-plus}
use Rattle.samr_nest.proofs.Moved.{AtMost-plus}
use Rattle.samr_nest.proofs.remains.in_image.Goals as goal

pub plus-requires : goal.plus-requires
plus-requires c = FitsVector-plus (InRange-lo c.h.invariant) c.offset-step.ensures.small

pub plus-requires-2 : goal.plus-requires-2
plus-requires-2 c = FitsVector-plus (InRange-hi c.h.invariant) c.offset-step.ensures.small

pub part_between-requires : goal.part_between-requires
part_between-requires c =
    rw (c.plus.ensures, c.plus-2.ensures) (AtMost-plus c.h.inside.lo c.h.inside.hi c.offset-step.result c.h.invariant.order)
