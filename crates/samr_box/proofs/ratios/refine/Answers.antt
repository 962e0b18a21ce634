use Rattle.samr_box.proofs.Ranges.{FitsVector-refined_lo, FitsVector-refined_hi}
use Rattle.samr_box.proofs.CellSets.{Holds-refined}
use Rattle.samr_box.proofs.ratios.refine.Goals as goal

pub times-requires : goal.times-requires
times-requires c =
    rw c.factors-factors.ensures.value
    (FitsVector-refined_lo (record { lo = c.b.inside.lo; hi = c.b.inside.hi }) c.args.r (rw (← c.b.view_is) at c.requires))

pub times-requires-2 : goal.times-requires-2
times-requires-2 c =
    rw c.factors-factors.ensures.value
    (FitsVector-refined_hi (record { lo = c.b.inside.lo; hi = c.b.inside.hi }) c.args.r
    (rw c.factors-factors.ensures.value at c.factors-factors.ensures.ratio)
    (rw (← c.b.view_is) at c.requires))

pub returns-clause-cells : goal.returns-clause-cells
returns-clause-cells c =
    rw (c.plus.ensures, c.times.ensures, c.times-2.ensures, c.minus-rest.ensures, c.alike.ensures, c.factors-factors.ensures.value, ← c.b.view_is)
    (λ x. Holds-refined (record { lo = c.b.inside.lo; hi = c.b.inside.hi }) c.args.r x
    (rw c.factors-factors.ensures.value at c.factors-factors.ensures.ratio))
