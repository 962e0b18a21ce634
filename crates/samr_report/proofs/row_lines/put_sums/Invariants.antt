use Rattle.std.proofs.Common.{◌≡◌, ◌++◌, take}
use Rattle.std.specs.List.{flat_map}
use Rattle.samr_report.specs.RankRows.{sum_line_by}
use Rattle.samr_report.proofs.row_lines.put_sums.Given as goal

abbrev pub invariant-loop-s : goal.invariant-loop-s
invariant-loop-s l = l.out.items ≡ l.fn.out.items ++ flat_map (λ s. sum_line_by l.field l.number s) (take l.s-index l.sums)
