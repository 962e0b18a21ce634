use Rattle.samr_box.specs.Vector.{AtMost}
use Rattle.samr_box.specs.Corners.{Corners}
use Rattle.samr_box.proofs.Ranges.{InRange-lo, InRange-hi}
use Rattle.samr_sched.proofs.Plain.{IsBox-met}
use Rattle.samr_sched.proofs.Counted.{product_fits, rest_fits, last_fits}
use Rattle.samr_sched.proofs.CellCounts.{refined_order}
use Rattle.samr_sched.proofs.rows.part_under.Goals as goal

pub times-lo-requires : goal.times-lo-requires
times-lo-requires c = product_fits (InRange-lo c.over.invariant) c.factors-factors.ensures.ratio

pub times-requires : goal.times-requires
times-requires c = product_fits (InRange-hi c.over.invariant) c.factors-factors.ensures.ratio

pub minus-requires : goal.minus-requires
minus-requires c = rw c.alike.ensures (rest_fits c.factors-factors.ensures.ratio)

pub plus-hi-requires : goal.plus-hi-requires
plus-hi-requires c = rw (c.times.ensures, c.minus.ensures, c.alike.ensures) (last_fits (InRange-hi c.over.invariant) c.factors-factors.ensures.ratio)

pub invariant_of-result : goal.invariant_of-result
invariant_of-result c =
    let b : Corners = record { lo = c.p.inside.lo; hi = c.p.inside.hi } in
    let wide : Corners = record { lo = c.over.inside.lo; hi = c.over.inside.hi } in
    let full : AtMost c.times-lo.result c.plus-hi.result =
    rw (c.times-lo.ensures, c.plus-hi.ensures, c.times.ensures, c.minus.ensures, c.alike.ensures)
    (refined_order wide c.factors-factors.result c.factors-factors.ensures.ratio c.over.invariant.order) in
    rw (c.greatest.ensures, c.least.ensures)
    (IsBox-met b c.times-lo.result c.plus-hi.result c.p.invariant full
    (c.at_most.ensures.means.0 c.if-not-at_most.false) (c.at_most-2.ensures.means.0 c.if-not-at_most-2.false))
