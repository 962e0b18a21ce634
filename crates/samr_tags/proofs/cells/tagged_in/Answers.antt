use Rattle.std.proofs.Common.{[]}
use Rattle.samr_find.specs.Cells.{plane}
use Rattle.samr_tags.proofs.CellScans.{more_tested}
use Rattle.samr_tags.proofs.cells.tagged_in.Goals as goal

pub loop-z-preserved : goal.loop-z-preserved
loop-z-preserved g c =
    more_tested (g.T.Given.is_tagged c.args.given.now c.args.level c.args.step) (λ z. plane c.args.b z) c.loop-z.z
    [] c.loop-z.out.items _ c.in_ok-push_plane.ensures c.loop-z.invariant
