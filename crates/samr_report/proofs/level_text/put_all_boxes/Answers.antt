use Rattle.std.proofs.Common.{ap, List}
use Rattle.std.specs.List.{flat_map}
use Rattle.samr_level.specs.Refs.{Owned}
use Rattle.samr_report.specs.declared.rows.LevelRows.{LevelRows}
use Rattle.samr_report.specs.declared.rows.RankRows.{RankRows}
use Rattle.samr_report.specs.LevelLines.{box_line}
use Rattle.samr_report.specs.RankRows.{level_told}
use Rattle.samr_report.proofs.Firsts.{seen_more, seen_end}
use Rattle.samr_report.proofs.level_text.put_all_boxes.Goals as goal

pub loop-q-preserved : goal.loop-q-preserved
loop-q-preserved c =
    seen_more (λ (q : LevelRows). flat_map (λ b. box_line c.args.level b) q.boxes) (λ (q : RankRows). level_told c.args.step c.args.level q) c.args.rows.now c.loop-q.q-index c.q-item.result
    _ c.args.out.now.items c.loop-q.out.items _ c.loop-q-test.true c.q-item.is c.loop-q.invariant c.in_ok-put_boxes.ensures
    (ap (λ (v : List Owned). flat_map (λ b. box_line c.args.level b) v) c.boxes_of.ensures)

pub returns : goal.returns
returns c =
    seen_end (λ (q : LevelRows). flat_map (λ b. box_line c.args.level b) q.boxes) (λ (q : RankRows). level_told c.args.step c.args.level q) c.args.rows.now c.loop-q.q-index
    c.args.out.now.items c.loop-q.out.items c.loop-q-test.false c.loop-q.invariant
