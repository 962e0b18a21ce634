use Rattle.samr_box.specs.Corners.{Corners}
use Rattle.samr_values.proofs.Ranges.{IsBox-between}
use Rattle.samr_values.proofs.pouring.part_between.Goals as goal

pub invariant_of-result : goal.invariant_of-result
invariant_of-result c =
    let b : Corners = record { lo = c.b.inside.lo; hi = c.b.inside.hi } in
    rw (c.greatest.ensures, c.least.ensures)
    (IsBox-between c.args.lo c.args.hi b c.requires c.b.invariant
    (c.at_most.ensures.means.0 c.if-not-at_most.false) (c.at_most-2.ensures.means.0 c.if-not-at_most-2.false))
