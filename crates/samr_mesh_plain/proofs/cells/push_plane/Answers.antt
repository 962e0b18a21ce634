use Rattle.samr_find.specs.Cells.{row}
use Rattle.samr_find.proofs.Ranges.{one_more_appended}
use Rattle.samr_mesh_plain.proofs.cells.push_plane.Goals as goal

pub loop-y-preserved : goal.loop-y-preserved
loop-y-preserved c = one_more_appended (λ y. row c.args.b y c.args.z) _ _ _ _ c.in_ok-push_row.ensures c.loop-y.invariant
