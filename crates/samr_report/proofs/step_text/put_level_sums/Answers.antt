use Rattle.std.proofs.Common.{ap, List, [], get_or}
use Rattle.std.specs.List.{flat_map}
use Rattle.samr_report.specs.declared.rows.BoxSum.{BoxSum}
use Rattle.samr_report.specs.declared.rows.StepRows.{StepRows}
use Rattle.samr_report.specs.declared.rows.RankRows.{RankRows}
use Rattle.samr_report.specs.RankRows.{step_told, sum_line_by}
use Rattle.samr_report.proofs.Firsts.{seen_more, seen_end}
use Rattle.samr_report.proofs.step_text.put_level_sums.Goals as goal

pub loop-q-preserved : goal.loop-q-preserved
loop-q-preserved c =
    seen_more (λ (q : StepRows). flat_map (λ s. sum_line_by c.args.field c.args.level s) (get_or (get_or q.sums c.args.field []) c.args.level [])) (λ (q : RankRows). step_told c.args.step q) c.args.rows.now c.loop-q.q-index c.q-item.result
    _ c.args.out.now.items c.loop-q.out.items _ c.loop-q-test.true c.q-item.is c.loop-q.invariant c.in_ok-put_sums.ensures
    (ap (λ (v : List BoxSum). flat_map (λ s. sum_line_by c.args.field c.args.level s) v) c.sums_of.ensures)

pub returns : goal.returns
returns c =
    seen_end (λ (q : StepRows). flat_map (λ s. sum_line_by c.args.field c.args.level s) (get_or (get_or q.sums c.args.field []) c.args.level [])) (λ (q : RankRows). step_told c.args.step q) c.args.rows.now c.loop-q.q-index
    c.args.out.now.items c.loop-q.out.items c.loop-q-test.false c.loop-q.invariant
