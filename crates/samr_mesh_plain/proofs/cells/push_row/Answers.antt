use Rattle.samr_find.specs.Cells.{cell_at}
use Rattle.samr_find.proofs.Ranges.{one_more_pushed}
use Rattle.samr_mesh_plain.proofs.cells.push_row.Goals as goal

pub loop-x-preserved : goal.loop-x-preserved
loop-x-preserved c =
    one_more_pushed (λ x. cell_at c.args.b x c.args.y c.args.z) _ _ _ _ _ c.in_ok-push.ensures.items c.loop-x.invariant c.cell_at.ensures
