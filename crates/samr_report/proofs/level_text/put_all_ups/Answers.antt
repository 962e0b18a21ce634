use Rattle.std.proofs.Common.{ap, List}
use Rattle.samr_level.specs.Refs.{Link}
use Rattle.samr_report.specs.declared.rows.LevelRows.{LevelRows}
use Rattle.samr_report.specs.declared.rows.RankRows.{RankRows}
use Rattle.samr_report.specs.LevelLines.{edge_lines}
use Rattle.samr_report.specs.RankRows.{level_told}
use Rattle.samr_report.proofs.Firsts.{seen_more, seen_end}
use Rattle.samr_report.proofs.level_text.put_all_ups.Goals as goal

pub loop-q-preserved : goal.loop-q-preserved
loop-q-preserved c =
    seen_more (λ (q : LevelRows). edge_lines c.args.level c.args.above q.ups) (λ (q : RankRows). level_told c.args.step c.args.level q) c.args.rows.now c.loop-q.q-index c.q-item.result
    _ c.args.out.now.items c.loop-q.out.items _ c.loop-q-test.true c.q-item.is c.loop-q.invariant c.in_ok-put_edges.ensures
    (ap (λ (v : List Link). edge_lines c.args.level c.args.above v) c.ups_of.ensures)

pub returns : goal.returns
returns c =
    seen_end (λ (q : LevelRows). edge_lines c.args.level c.args.above q.ups) (λ (q : RankRows). level_told c.args.step c.args.level q) c.args.rows.now c.loop-q.q-index
    c.args.out.now.items c.loop-q.out.items c.loop-q-test.false c.loop-q.invariant
