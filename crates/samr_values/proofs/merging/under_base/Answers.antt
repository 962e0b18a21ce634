use Rattle.std.proofs.Common.{◌∙◌, ap}
use Rattle.samr_box.specs.Corners.{Corners, met}
use Rattle.samr_box.specs.Ratios.{coarsened}
use Rattle.samr_values.proofs.Merges.{under_inside}
use Rattle.samr_values.proofs.merging.under_base.Goals as goal

pub returns-clause-inside : goal.returns-clause-inside
returns-clause-inside c = λ refinement.
    under_inside c.args.e c.args.step c.meet.result (rw c.factors.ensures.value at c.factors.ensures.ratio)
    (c.meet.ensures.value
    ∙ ap (λ (b : Corners). met b c.head_of.result) (c.coarsen.ensures.value ∙ ap (λ (b : Corners). coarsened b c.args.step) c.base_of.ensures)
    ∙ ap (λ (b : Corners). met (coarsened c.args.e.base.bx c.args.step) b) c.head_of.ensures)
    refinement
