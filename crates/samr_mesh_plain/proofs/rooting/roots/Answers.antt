use Rattle.std.proofs.Common.{ap}
use Rattle.samr_problem.specs.Fields.{Fields}
use Rattle.samr_mesh_plain.proofs.RootFacts.{tiles_fit, tile_some}
use Rattle.samr_mesh_plain.proofs.rooting.roots.Goals as goal

pub tiles-requires : goal.tiles-requires
tiles-requires c =
    tiles_fit c.args.problem.now c.args.level c.tile_of.result c.frame_at-frame.result c.accepted.ensures c.requires
    (tile_some c.args.problem.now c.problem.inside.tile (ap (λ (q : Fields). q.tile) c.problem.view_is) c.if-problem-eq0.false) c.tile_of.ensures c.frame_at-frame.ensures
