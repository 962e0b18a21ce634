use Rattle.std.proofs.Common.{ap}
use Rattle.samr_level.specs.Refs.{Owned}
use Rattle.samr_problem.specs.Fields.{Fields}
use Rattle.samr_mesh.specs.Passes.{Pass}
use Rattle.samr_mesh_plain.proofs.TagFacts.{needed_fits, covers_is}
use Rattle.samr_mesh_plain.proofs.covered.covers.Goals as goal

pub needed-below-requires : goal.needed-below-requires
needed-below-requires c =
    needed_fits c.args.problem.now c.args.w.now c.args.b c.b.inside.bx c.w.inside.number c.step_of-upper.result c.problem.inside.nest c.accepted.ensures c.requires.can c.requires.fine
    (ap (λ (o : Owned). o.bx) c.b.view_is) (ap (λ (w : Pass). w.number) c.w.view_is) c.step_of-upper.ensures (ap (λ (q : Fields). q.nest) c.problem.view_is)

pub returns : goal.returns
returns c =
    covers_is c.args.problem.now c.args.w.now c.args.b c.args.x c.b.inside.bx c.w.inside.number c.step_of-upper.result c.problem.inside.nest c.step_of-lower.result c.needed-below.result c.frame_at.result c.args.shifts.now c.some_image_has.result
    (ap (λ (o : Owned). o.bx) c.b.view_is) (ap (λ (w : Pass). w.number) c.w.view_is) c.step_of-upper.ensures (ap (λ (q : Fields). q.nest) c.problem.view_is) c.step_of-lower.ensures
    c.needed-below.ensures c.frame_at.ensures c.requires.shifts c.some_image_has.ensures
