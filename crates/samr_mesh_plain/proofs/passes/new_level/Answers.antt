use Rattle.std.proofs.Common.{◌∙◌, ap}
use Rattle.samr_mesh.specs.Domains.{step_of}
use Rattle.samr_mesh.specs.Passes.{Pass}
use Rattle.samr_mesh_plain.proofs.CutFacts.{new_boxes}
use Rattle.samr_mesh_plain.proofs.passes.new_level.Goals as goal

pub refined_level-requires : goal.refined_level-requires
refined_level-requires c =
    new_boxes c.args.problem.now c.args.w.now c.as_slice.result.now c.step_of.result c.accepted.ensures c.requires (c.as_slice.ensures.value ∙ c.in_ok-pieces.ensures)
    (c.step_of.ensures ∙ ap (λ (w : Pass). step_of c.args.problem.now w.number) c.w.view_is)
