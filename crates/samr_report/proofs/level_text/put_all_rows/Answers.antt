use Rattle.std.proofs.Common.{ap, List}
use Rattle.std.specs.List.{flat_map}
use Rattle.samr_sched.specs.declared.row.Row.{Row}
use Rattle.samr_report.specs.declared.rows.LevelRows.{LevelRows}
use Rattle.samr_report.specs.declared.rows.RankRows.{RankRows}
use Rattle.samr_report.specs.ScheduleLines.{row_line}
use Rattle.samr_report.specs.RankRows.{level_told}
use Rattle.samr_report.proofs.Firsts.{seen_more, seen_end}
use Rattle.samr_report.proofs.level_text.put_all_rows.Goals as goal

pub loop-q-preserved : goal.loop-q-preserved
loop-q-preserved c =
    seen_more (λ (q : LevelRows). flat_map (λ row. row_line c.args.level row) q.rows) (λ (q : RankRows). level_told c.args.step c.args.level q) c.args.rows.now c.loop-q.q-index c.q-item.result
    _ c.args.out.now.items c.loop-q.out.items _ c.loop-q-test.true c.q-item.is c.loop-q.invariant c.in_ok-put_rows.ensures
    (ap (λ (v : List Row). flat_map (λ row. row_line c.args.level row) v) c.rows_of.ensures)

pub returns : goal.returns
returns c =
    seen_end (λ (q : LevelRows). flat_map (λ row. row_line c.args.level row) q.rows) (λ (q : RankRows). level_told c.args.step c.args.level q) c.args.rows.now c.loop-q.q-index
    c.args.out.now.items c.loop-q.out.items c.loop-q-test.false c.loop-q.invariant
