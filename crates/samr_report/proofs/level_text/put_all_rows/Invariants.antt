use Rattle.std.proofs.Common.{◌≡◌, ◌++◌, take}
use Rattle.std.specs.List.{flat_map}
use Rattle.samr_report.specs.ScheduleLines.{row_line}
use Rattle.samr_report.specs.RankRows.{level_told}
use Rattle.samr_report.proofs.level_text.put_all_rows.Given as goal

abbrev pub invariant-loop-q : goal.invariant-loop-q
invariant-loop-q l = l.out.items ≡ l.fn.out.items ++ flat_map (λ q. flat_map (λ row. row_line l.fn.level row) (level_told l.fn.step l.fn.level q).rows) (take l.q-index l.rows)
