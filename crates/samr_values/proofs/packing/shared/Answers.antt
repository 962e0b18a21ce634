use Rattle.std.proofs.Common.{◌∙◌, ap}
use Rattle.samr_box.specs.Corners.{Corners, met}
use Rattle.samr_values.proofs.Packed.{met_first}
use Rattle.samr_values.proofs.packing.shared.Goals as goal

pub returns-clause-inside : goal.returns-clause-inside
returns-clause-inside c =
    met_first c.args.e.base.bx c.args.e.head.bx c.meet.result
    (c.meet.ensures.value ∙ ap (λ (b : Corners). met b c.head_of.result) c.base_of.ensures ∙ ap (λ (b : Corners). met c.args.e.base.bx b) c.head_of.ensures)
