use Rattle.std.proofs.Common.{◌≡◌, ◌++◌, take}
use Rattle.std.specs.List.{flat_map}
use Rattle.samr_report.specs.LevelLines.{box_line}
use Rattle.samr_report.proofs.level_lines.put_boxes.Given as goal

abbrev pub invariant-loop-b : goal.invariant-loop-b
invariant-loop-b l = l.out.items ≡ l.fn.out.items ++ flat_map (λ b. box_line l.number b) (take l.b-index l.level)
