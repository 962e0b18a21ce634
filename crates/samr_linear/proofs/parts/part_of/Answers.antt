use Rattle.samr_box.specs.Corners.{Corners}
use Rattle.samr_fill.proofs.Corners.{IsBox-part}
use Rattle.samr_linear.proofs.parts.part_of.Goals as goal

pub invariant_of-result : goal.invariant_of-result
invariant_of-result c =
    let b : Corners = record { lo = c.b.inside.lo; hi = c.b.inside.hi } in
    rw (c.greatest.ensures, c.least.ensures)
    (IsBox-part b c.args.lo c.args.hi c.requires c.b.invariant
    (c.at_most.ensures.means.0 c.if-not-at_most.false) (c.at_most-2.ensures.means.0 c.if-not-at_most-2.false))
