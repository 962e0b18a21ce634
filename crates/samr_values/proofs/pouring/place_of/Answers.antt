use Rattle.samr_box.specs.Corners.{Corners}
use Rattle.samr_values.proofs.Ranges.{cell_range}
use Rattle.samr_values.proofs.pouring.place_of.Goals as goal

pub returns-clause-range : goal.returns-clause-range
returns-clause-range c =
    let b : Corners = record { lo = c.b.inside.lo; hi = c.b.inside.hi } in
    cell_range b c.args.c c.b.invariant (rw (← c.b.view_is) at c.requires.inside)
