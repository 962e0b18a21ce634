use Rattle.samr_box.specs.Vector.{times}
use Rattle.samr_box.proofs.Ranges.{InRange-hi, FitsVector-plus}
use Rattle.samr_box.proofs.CellSets.{Holds-moved}
use Rattle.samr_box.proofs.borders.shifted.Goals as goal

pub plus-requires-2 : goal.plus-requires-2
plus-requires-2 c = FitsVector-plus (InRange-hi c.b.invariant) c.offset-step.ensures.small

pub returns-clause-cells : goal.returns-clause-cells
returns-clause-cells c =
    rw (c.plus.ensures, c.plus-2.ensures, c.offset-step.ensures.value, ← c.b.view_is)
    (Holds-moved (record { lo = c.b.inside.lo; hi = c.b.inside.hi }) (times c.args.s c.args.d.now.size))
