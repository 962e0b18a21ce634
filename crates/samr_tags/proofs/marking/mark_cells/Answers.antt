use Rattle.std.proofs.Common.{◌∙◌, ap, take, ◌+◌, get_or}
use Rattle.std.proofs.lemmas.List.{take_all}
use Rattle.std.proofs.lemmas.List.Folds.{list_any_more}
use Rattle.std.specs.Prelude.{Bool, List, pos, ◌&&◌, ◌||◌}
use Rattle.std.specs.List.{list_any}
use Rattle.samr_box.specs.declared.vector.IVec.{IVec}
use Rattle.samr_box.specs.Corners.{Corners, holds}
use Rattle.samr_sign.specs.Fields.{tagged}
use Rattle.samr_tags.specs.Seeing.{spread}
use Rattle.samr_tags.proofs.Marks.{goes_on}
use Rattle.samr_tags.proofs.marking.mark_cells.Goals as goal

pub loop-cell-preserved : goal.loop-cell-preserved
loop-cell-preserved c =
    let cells = c.args.cells.now in
    let i = c.loop-cell.cell-index in
    let cell : IVec = get_or cells i (record { k = pos 0; j = pos 0; i = pos 0 }) in
    let before = c.loop-cell.invariant in (
      c.mark_cell.ensures.bx ∙ before.0,
      λ x.
          let has : IVec → Bool = λ cell. holds (spread c.args.frame.now c.args.buffer c.args.s cell) x in
          goes_on (holds c.args.field.now.bx x) (has cell) (list_any has (take i cells)) (list_any has (take (i + 1) cells))
          (tagged c.args.field.now x) (tagged c.loop-cell.field x) (tagged c.mark_cell.new.field x)
          (before.1 x)
          (c.mark_cell.ensures.cells x ∙ ap (λ (b : Corners). (holds b x && has cell) || tagged c.loop-cell.field x) before.0)
          (list_any_more has cells i (record { k = pos 0; j = pos 0; i = pos 0 }) c.loop-cell-test.true),
    )

pub returns-clause-cells : goal.returns-clause-cells
returns-clause-cells c = λ x.
    let has : IVec → Bool = λ cell. holds (spread c.args.frame.now c.args.buffer c.args.s cell) x in
    c.loop-cell.invariant.1 x
    ∙ ap (λ (l : List IVec). (holds c.args.field.now.bx x && list_any has l) || tagged c.args.field.now x) (take_all c.loop-cell.cell-index c.args.cells.now c.loop-cell-test.false)
