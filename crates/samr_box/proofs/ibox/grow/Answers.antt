use Rattle.samr_box.proofs.CellSets.{Holds-grown}
use Rattle.samr_box.proofs.ibox.grow.Goals as goal

pub returns-clause-cells : goal.returns-clause-cells
returns-clause-cells c =
    rw (c.minus.ensures, c.plus.ensures, ← c.b.view_is)
    (λ wide. Holds-grown (record { lo = c.b.inside.lo; hi = c.b.inside.hi }) c.args.w c.b.invariant.order wide)
