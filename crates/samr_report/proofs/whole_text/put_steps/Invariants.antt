use Rattle.std.proofs.Common.{◌≡◌, ◌++◌, map}
use Rattle.std.specs.List.{flat_map, range_with_len}
use Rattle.samr_report.specs.RankRows.{step_told, step_text_by}
use Rattle.samr_report.proofs.whole_text.put_steps.Given as goal

abbrev pub invariant-loop-step : goal.invariant-loop-step
invariant-loop-step l =
    l.out.items ≡ l.fn.out.items ++ flat_map (λ t. step_text_by l.problem t (map (λ q. step_told t q) l.rows)) (range_with_len 0 l.step)
