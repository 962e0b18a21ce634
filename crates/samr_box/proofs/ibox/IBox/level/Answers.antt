use Rattle.samr_box.proofs.Slabs.{IsBox-level, Meet-level}
use Rattle.samr_box.proofs.CellSets.{Holds-level}
use Rattle.samr_box.proofs.ibox.IBox.level.Goals as goal

pub invariant_of-result : goal.invariant_of-result
invariant_of-result c =
    rw (c.raised.ensures, c.lowered.ensures)
    (IsBox-level c.args.axis (record { lo = c.self.inside.lo; hi = c.self.inside.hi }) (record { lo = c.other.inside.lo; hi = c.other.inside.hi })
    c.self.invariant c.other.invariant
    (rw (← c.self.view_is, ← c.other.view_is) at c.requires))

pub returns-clause-meets : goal.returns-clause-meets
returns-clause-meets c =
    rw (c.raised.ensures, c.lowered.ensures, ← c.other.view_is)
    (Meet-level c.args.axis (record { lo = c.self.inside.lo; hi = c.self.inside.hi }) (record { lo = c.other.inside.lo; hi = c.other.inside.hi })
    c.other.invariant.order
    (rw (← c.self.view_is, ← c.other.view_is) at c.requires))

pub returns-clause-cells : goal.returns-clause-cells
returns-clause-cells c =
    rw (c.raised.ensures, c.lowered.ensures, ← c.self.view_is, ← c.other.view_is)
    (Holds-level c.args.axis (record { lo = c.self.inside.lo; hi = c.self.inside.hi }) (record { lo = c.other.inside.lo; hi = c.other.inside.hi }))
