use Rattle.std.proofs.Common.{◌-◌, ap, arith}
use Rattle.samr_problem.specs.Fields.{Fields}
use Rattle.samr_mesh_plain.proofs.MeshFacts.{coarse_from}
use Rattle.samr_mesh_plain.proofs.mesh.regridded.Goals as goal

pub renewed_over-requires-clause-levels : goal.renewed_over-requires-clause-levels
renewed_over-requires-clause-levels c =
    let levels = ap (λ (q : Fields). q.levels) c.problem.view_is in
    let one = c.accepted.ensures.levels.above in
    coarse_from c.args.problem.now c.args.ranks (c.problem.inside.levels - 1) c.args.levels.now c.coarsest-coarsest.result.now c.accepted.ensures c.requires.ranks (omega (arith, levels, one)) c.requires.mesh c.coarsest-coarsest.ensures
