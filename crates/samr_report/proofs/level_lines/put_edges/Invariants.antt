use Rattle.std.proofs.Common.{◌≡◌, ◌++◌, take}
use Rattle.std.specs.List.{flat_map}
use Rattle.samr_report.specs.LevelLines.{edge_line}
use Rattle.samr_report.proofs.level_lines.put_edges.Given as goal

abbrev pub invariant-loop-edge : goal.invariant-loop-edge
invariant-loop-edge l = l.out.items ≡ l.fn.out.items ++ flat_map (edge_line l.base l.head) (take l.edge-index l.edges)
