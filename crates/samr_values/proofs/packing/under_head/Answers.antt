use Rattle.std.proofs.Common.{◌∙◌, ap}
use Rattle.samr_box.specs.Corners.{Corners, met}
use Rattle.samr_box.specs.Ratios.{coarsened}
use Rattle.samr_values.proofs.Packed.{met_first}
use Rattle.samr_values.proofs.packing.under_head.Goals as goal

pub returns-clause-inside : goal.returns-clause-inside
returns-clause-inside c =
    met_first c.args.e.base.bx (coarsened c.args.e.head.bx c.args.step) c.meet.result
    (c.meet.ensures.value
    ∙ ap (λ (b : Corners). met b c.coarsen.result) c.base_of.ensures
    ∙ ap (λ (b : Corners). met c.args.e.base.bx b) c.coarsen.ensures.value
    ∙ ap (λ (b : Corners). met c.args.e.base.bx (coarsened b c.args.step)) c.head_of.ensures)
