use Rattle.std.proofs.Common.{◌≡◌, take, length, sum_by}
use Rattle.samr_report.specs.RankRows.{level_told}
use Rattle.samr_report.proofs.level_text.count_boxes.Given as goal

abbrev pub invariant-loop-q : goal.invariant-loop-q
invariant-loop-q l = l.total ≡ sum_by (λ q. length (level_told l.fn.step l.fn.level q).boxes) (take l.q-index l.rows)
