use Rattle.std.proofs.Common.{sym, ap, ◌∙◌}
use Rattle.std.proofs.lemmas.List.Folds.{list_any_at}
use Rattle.samr_box.specs.Corners.{holds}
use Rattle.samr_box.proofs.CellSets.{holds-from}
use Rattle.samr_boxlist.proofs.cover.meets_any.Goals as goal

pub returns-then-boxes_meet-clause-cell : goal.returns-then-boxes_meet-clause-cell
returns-then-boxes_meet-clause-cell c =
    λ t. let r = c.boxes_meet.ensures.cells.0 c.if-boxes_meet.true in (
      r.0,
      holds-from r.2,
      list_any_at (λ m. holds m r.0) c.args.list.now c.loop-a.a-index c.a-item.result c.loop-a-test.true
          (ap (λ m. holds m r.0) (sym c.a-item.is) ∙ holds-from r.1),
    )
