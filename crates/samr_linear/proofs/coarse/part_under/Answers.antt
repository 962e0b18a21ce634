use Rattle.samr_box.specs.Corners.{Corners}
use Rattle.samr_box.proofs.Ranges.{InRange-lo, InRange-hi}
use Rattle.samr_fill.proofs.Numbers.{wide-minus, fits_times, fits_last, AtMost-last}
use Rattle.samr_fill.proofs.Pieces.{order_moved}
use Rattle.samr_linear.proofs.coarse.part_under.Goals as goal

pub times-lo-requires : goal.times-lo-requires
times-lo-requires c = rw c.minus.ensures (fits_times (wide-minus (InRange-lo c.b.invariant) c.requires) c.factors-factors.ensures.ratio)

pub times-requires : goal.times-requires
times-requires c = rw c.minus-2.ensures (fits_times (wide-minus (InRange-hi c.b.invariant) c.requires) c.factors-factors.ensures.ratio)

pub plus-hi-requires : goal.plus-hi-requires
plus-hi-requires c =
    rw (c.times.ensures, c.minus-rest.ensures, c.minus-2.ensures, c.alike.ensures)
    (fits_last (wide-minus (InRange-hi c.b.invariant) c.requires) c.factors-factors.ensures.ratio)

pub part_of-requires : goal.part_of-requires
part_of-requires c =
    let b : Corners = record { lo = c.b.inside.lo; hi = c.b.inside.hi } in
    rw (c.times-lo.ensures, c.plus-hi.ensures, c.times.ensures, c.minus-rest.ensures, c.minus.ensures, c.minus-2.ensures, c.alike.ensures)
    (AtMost-last (order_moved b c.args.offset c.b.invariant.order) c.factors-factors.ensures.ratio)
