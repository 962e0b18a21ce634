use Rattle.std.proofs.Common.{subst, sym}
use Rattle.samr_level.specs.Regions.{boxes_of, Area}
use Rattle.samr_level.specs.Blocks.{IsBlocking}
use Rattle.samr_problem.specs.Fields.{Fields}
use Rattle.samr_mesh.proofs.Regions.{has_level0}
use Rattle.samr_verify.proofs.mesh.level0_of.Goals as goal

pub whole_level0-requires : goal.whole_level0-requires
whole_level0-requires c =
    let p : Fields = c.args.problem.now in
    let here : IsBlocking p.block (boxes_of c.in_ok-region.region) = subst (λ (a : Area). IsBlocking p.block (boxes_of a)) (sym c.in_ok-region.ensures) (has_level0 p c.requires).blocks in
    subst (λ (q : Fields). IsBlocking q.block (boxes_of c.in_ok-region.region)) (sym c.problem.view_is) here
