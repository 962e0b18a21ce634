use Rattle.std.proofs.Common.{sym, subst, arith}
use Rattle.samr_box.specs.declared.vector.IVec.{IVec}
use Rattle.samr_box.specs.Corners.{Holds}
use Rattle.samr_find.specs.Cells.{cell_at}
use Rattle.samr_tags.proofs.CellScans.{cell_inside, one_more_tested}
use Rattle.samr_tags.proofs.cells.push_row.Goals as goal

pub push_tagged-requires : goal.push_tagged-requires
push_tagged-requires g c =
    let b = c.args.b in
    c.requires.told c.cell_at.result
    (subst (λ (v : IVec). Holds b v) (sym c.cell_at.ensures)
    (cell_inside b c.loop-x.x c.args.y c.args.z c.length-x-end.ensures.whole.order (omega (arith, c.loop-x-test.true, c.length-x-end.ensures.value)) c.requires.y c.requires.z))

pub loop-x-preserved : goal.loop-x-preserved
loop-x-preserved g c =
    one_more_tested (g.T.Given.is_tagged c.args.given.now c.args.level c.args.step) (λ x. cell_at c.args.b x c.args.y c.args.z) c.loop-x.x
    c.args.out.now.items c.loop-x.out.items _ c.cell_at.result c.in_ok-push_tagged.ensures c.loop-x.invariant c.cell_at.ensures
