use Rattle.std.proofs.Common.{ap, sym, subst}
use Rattle.samr_box.specs.declared.vector.IVec.{IVec}
use Rattle.samr_level.specs.Blocks.{IsBlocking}
use Rattle.samr_level.specs.Regions.{Area, boxes_of}
use Rattle.samr_problem.specs.Fields.{Fields}
use Rattle.samr_mesh.specs.Domains.{area_of}
use Rattle.samr_mesh.proofs.Regions.{has_level0}
use Rattle.samr_mesh_plain.proofs.mesh.level0_of.Goals as goal

pub whole_level0-requires : goal.whole_level0-requires
whole_level0-requires c =
    subst (λ (a : Area). IsBlocking c.problem.inside.block (boxes_of a)) (sym c.in_ok-region.ensures)
    (subst (λ (v : IVec). IsBlocking v (boxes_of (area_of c.args.problem.now))) (sym (ap (λ (q : Fields). q.block) c.problem.view_is)) (has_level0 c.args.problem.now c.accepted.ensures).blocks)
