use Rattle.std.proofs.Common.{◌∙◌, ap, sym, subst, List}
use Rattle.std.specs.List.{All}
use Rattle.samr_shape.specs.declared.shape.Shape.{Shape}
use Rattle.samr_shape.specs.Tags.{IsShape}
use Rattle.samr_box.specs.declared.vector.IVec.{IVec}
use Rattle.samr_box.specs.Vector.{IsRatio}
use Rattle.samr_problem.specs.Fields.{Fields}
use Rattle.samr_mesh_plain.proofs.LevelFacts.{cell_is_box, fine_is_box, finest_ratio}
use Rattle.samr_mesh_plain.proofs.ShapeFacts.{shapes_are}
use Rattle.samr_mesh_plain.proofs.shaped.shape_at.Goals as goal

pub tags-requires-clause-shapes : goal.tags-requires-clause-shapes
tags-requires-clause-shapes c =
    subst (λ (l : List Shape). All IsShape l) (sym (c.as_slice-shapes.ensures ∙ ap (λ (q : Fields). q.shapes) c.problem.view_is)) (shapes_are c.args.problem.now c.accepted.ensures)

pub tags-requires-clause-cell : goal.tags-requires-clause-cell
tags-requires-clause-cell c = cell_is_box c.args.problem.now c.args.level c.args.x c.accepted.ensures c.requires.level c.requires.cell

pub tags-requires-clause-fine : goal.tags-requires-clause-fine
tags-requires-clause-fine c =
    fine_is_box c.args.problem.now c.args.level c.args.x c.to_finest.result c.accepted.ensures c.requires.level c.requires.cell
    (subst (λ (v : IVec). IsRatio v) (sym c.to_finest.ensures) (finest_ratio c.args.problem.now c.args.level c.accepted.ensures c.requires.level))
