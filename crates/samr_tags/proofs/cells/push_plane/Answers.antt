use Rattle.samr_find.specs.Cells.{row}
use Rattle.samr_tags.proofs.CellScans.{more_tested}
use Rattle.samr_tags.proofs.cells.push_plane.Goals as goal

pub loop-y-preserved : goal.loop-y-preserved
loop-y-preserved g c =
    more_tested (g.T.Given.is_tagged c.args.given.now c.args.level c.args.step) (λ y. row c.args.b y c.args.z) c.loop-y.y
    c.args.out.now.items c.loop-y.out.items _ c.in_ok-push_row.ensures c.loop-y.invariant
