use Rattle.std.specs.Prelude.{codes}
use Rattle.samr_verify.specs.Reading.{and_then, behind_word, count}
use Rattle.samr_verify.proofs.ReadLaws.{both_read, first_lacks, lacks, second_lacks}
use Rattle.samr_verify.proofs.PartLaws.{boxes_tail, cells_tail}
use Rattle.samr_verify.proofs.LineLaws.{tells_lacks, tells_ended}
use Rattle.samr_verify.proofs.meaning.level_line.Goals as goal

pub returns-in_err-level : goal.returns-in_err-level
returns-in_err-level c =
    tells_lacks _ c.from_residual.ensures
    (first_lacks (behind_word (codes "level") count) (and_then (behind_word (codes " boxes") count) (behind_word (codes " cells") count)) c.args.text.now boxes_tail (lacks _ _ c.count_behind.ensures c.in_err-level.was))

pub returns-in_err-boxes : goal.returns-in_err-boxes
returns-in_err-boxes c =
    tells_lacks _ c.from_residual-in_err-boxes.ensures
    (second_lacks (behind_word (codes "level") count) (and_then (behind_word (codes " boxes") count) (behind_word (codes " cells") count)) c.args.text.now boxes_tail c.in_ok-level.level.0 c.in_ok-level.level.1.now c.in_ok-level.ensures
    (first_lacks (behind_word (codes " boxes") count) (behind_word (codes " cells") count) c.in_ok-level.level.1.now cells_tail (lacks _ _ c.count_behind-2.ensures c.in_err-boxes.was)))

pub returns-in_err-cells : goal.returns-in_err-cells
returns-in_err-cells c =
    tells_lacks _ c.from_residual-in_err-cells.ensures
    (second_lacks (behind_word (codes "level") count) (and_then (behind_word (codes " boxes") count) (behind_word (codes " cells") count)) c.args.text.now boxes_tail c.in_ok-level.level.0 c.in_ok-level.level.1.now c.in_ok-level.ensures
    (second_lacks (behind_word (codes " boxes") count) (behind_word (codes " cells") count) c.in_ok-level.level.1.now cells_tail c.in_ok-boxes.boxes.0 c.in_ok-boxes.boxes.1.now c.in_ok-boxes.ensures
    (lacks _ _ c.count_behind-3.ensures c.in_err-cells.was)))

pub returns : goal.returns
returns c =
    tells_ended (c.in_ok-level.level.0, (c.in_ok-boxes.boxes.0, c.in_ok-cells.cells.0)) c.in_ok-cells.cells.1.now c.ended.result
    (both_read (behind_word (codes "level") count) (and_then (behind_word (codes " boxes") count) (behind_word (codes " cells") count)) c.args.text.now boxes_tail c.in_ok-level.level.0 c.in_ok-level.level.1.now c.in_ok-level.ensures (c.in_ok-boxes.boxes.0, c.in_ok-cells.cells.0) c.in_ok-cells.cells.1.now
    (both_read (behind_word (codes " boxes") count) (behind_word (codes " cells") count) c.in_ok-level.level.1.now cells_tail c.in_ok-boxes.boxes.0 c.in_ok-boxes.boxes.1.now c.in_ok-boxes.ensures c.in_ok-cells.cells.0 c.in_ok-cells.cells.1.now
    c.in_ok-cells.ensures))
    c.ended.ensures.some c.ended.ensures.each
