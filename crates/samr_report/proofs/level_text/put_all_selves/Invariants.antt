use Rattle.std.proofs.Common.{◌≡◌, ◌++◌, take}
use Rattle.std.specs.List.{flat_map}
use Rattle.samr_report.specs.LevelLines.{edge_lines}
use Rattle.samr_report.specs.RankRows.{level_told}
use Rattle.samr_report.proofs.level_text.put_all_selves.Given as goal

abbrev pub invariant-loop-q : goal.invariant-loop-q
invariant-loop-q l = l.out.items ≡ l.fn.out.items ++ flat_map (λ q. edge_lines l.fn.level l.fn.level (level_told l.fn.step l.fn.level q).selves) (take l.q-index l.rows)
