use Rattle.std.proofs.Common.{◌≡◌, ◌++◌}
use Rattle.std.specs.List.{flat_map, range_with_len}
use Rattle.samr_level.specs.Overlaps.{of_rank}
use Rattle.samr_report.specs.LevelLines.{edge_lines}
use Rattle.samr_report.specs.Level0Text.{edges0_of}
use Rattle.samr_report.proofs.level0_text.put_all_edges.Given as goal

abbrev pub invariant-loop-rank : goal.invariant-loop-rank
invariant-loop-rank l =
    l.out.items ≡ l.fn.out.items ++ flat_map (λ r. edge_lines 0 0 (of_rank r (edges0_of l.problem l.ranks))) (range_with_len 0 l.rank)
