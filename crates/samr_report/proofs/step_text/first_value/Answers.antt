use Rattle.std.proofs.Common.{◌∙◌, sym, get_or, [], None}
use Rattle.samr_report.specs.declared.rows.StepRows.{StepRows}
use Rattle.samr_report.specs.declared.rows.RankRows.{RankRows}
use Rattle.samr_report.specs.RankRows.{step_told}
use Rattle.samr_report.proofs.Firsts.{seen_first, seen_none}
use Rattle.samr_report.proofs.step_text.first_value.Goals as goal

pub returns-in-Some : goal.returns-in-Some
returns-in-Some c =
    seen_first (λ (q : StepRows). get_or (get_or q.probes c.args.field []) c.args.number None) (λ (q : RankRows). step_told c.args.step q) c.args.rows.now
    c.loop-q.q-index c.q-item.result c.in-Some.value c.loop-q-test.true c.q-item.is (sym c.probe_of.ensures ∙ c.in-Some.is) c.loop-q.invariant

pub returns : goal.returns
returns c =
    seen_none (λ (q : StepRows). get_or (get_or q.probes c.args.field []) c.args.number None) (λ (q : RankRows). step_told c.args.step q) c.args.rows.now
    c.loop-q.q-index c.loop-q-test.false c.loop-q.invariant
