use Rattle.std.proofs.Common.{[]}
use Rattle.samr_find.specs.Cells.{plane}
use Rattle.samr_find.proofs.Ranges.{one_more_appended}
use Rattle.samr_mesh_plain.proofs.cells.cells_in.Goals as goal

pub loop-z-preserved : goal.loop-z-preserved
loop-z-preserved c = one_more_appended (λ z. plane c.args.b z) _ [] _ _ c.in_ok-push_plane.ensures c.loop-z.invariant
