use Rattle.std.proofs.Common.{◌≡◌, ◌++◌, map}
use Rattle.std.specs.List.{flat_map, range_with_len}
use Rattle.samr_report.specs.RankRows.{level_told, level_text_by}
use Rattle.samr_report.proofs.step_text.put_mesh.Given as goal

abbrev pub invariant-loop-level : goal.invariant-loop-level
invariant-loop-level l =
    l.out.items ≡ l.fn.out.items ++ flat_map (λ n. level_text_by l.silent n (map (λ q. level_told l.fn.step n q) l.rows)) (range_with_len 0 l.level)
