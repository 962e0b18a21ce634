use Rattle.std.proofs.Common.{◌∙◌, ap, sym, subst}
use Rattle.samr_box.specs.declared.vector.IVec.{IVec}
use Rattle.samr_box.specs.Corners.{Corners, IsBox, grown}
use Rattle.samr_box.specs.Space.{Space, whole}
use Rattle.samr_problem.specs.Fields.{Fields}
use Rattle.samr_mesh.specs.Domains.{frame_at}
use Rattle.samr_mesh_plain.proofs.TagFacts.{around_box}
use Rattle.samr_mesh_plain.proofs.shaped.reach.Goals as goal

pub grow-requires : goal.grow-requires
grow-requires c =
    subst (λ (b : Corners). IsBox (grown b c.problem.inside.tag_buffer)) (sym (c.whole.ensures.value ∙ ap (λ (d : Space). whole d) c.frame_at.ensures))
    (subst (λ (v : IVec). IsBox (grown (whole (frame_at c.args.problem.now c.args.level)) v)) (sym (ap (λ (q : Fields). q.tag_buffer) c.problem.view_is))
    (around_box c.args.problem.now c.args.level c.accepted.ensures c.requires))
