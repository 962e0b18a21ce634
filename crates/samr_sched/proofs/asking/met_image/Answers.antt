use Rattle.samr_box.specs.Vector.{AtMost}
use Rattle.samr_box.specs.Corners.{Corners}
use Rattle.samr_box.proofs.Ranges.{InRange-hi, FitsVector-plus}
use Rattle.samr_nest.proofs.Moved.{AtMost-plus}
use Rattle.samr_sched.proofs.Plain.{IsBox-met}
use Rattle.samr_sched.proofs.asking.met_image.Goals as goal

pub plus-hi-requires : goal.plus-hi-requires
plus-hi-requires c = FitsVector-plus (InRange-hi c.h.invariant) c.offset-step.ensures.small

pub invariant_of-result : goal.invariant_of-result
invariant_of-result c =
    let b : Corners = record { lo = c.b.inside.lo; hi = c.b.inside.hi } in
    let full : AtMost c.plus-lo.result c.plus-hi.result = rw (c.plus-lo.ensures, c.plus-hi.ensures) (AtMost-plus c.h.inside.lo c.h.inside.hi c.offset-step.result c.h.invariant.order) in
    rw (c.greatest.ensures, c.least.ensures)
    (IsBox-met b c.plus-lo.result c.plus-hi.result c.b.invariant full
    (c.at_most.ensures.means.0 c.if-not-at_most.false) (c.at_most-2.ensures.means.0 c.if-not-at_most-2.false))
