use Rattle.samr_box.proofs.Ranges.{IsBox-whole}
use Rattle.samr_box.proofs.CellSets.{Holds-whole}
use Rattle.samr_box.proofs.space.Domain.whole.Goals as goal

pub invariant_of-result : goal.invariant_of-result
invariant_of-result c =
    rw (c.alike.ensures, c.minus.ensures)
    (IsBox-whole (record { size = c.self.inside.size; periodic = c.self.inside.periodic }) c.self.invariant)

pub returns-clause-cells : goal.returns-clause-cells
returns-clause-cells c =
    rw (c.alike.ensures, c.minus.ensures, ← c.self.view_is)
    (Holds-whole (record { size = c.self.inside.size; periodic = c.self.inside.periodic }))
