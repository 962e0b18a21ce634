use Rattle.std.proofs.Common.{◌≡◌, drop, get_or, [], map, None}
use Rattle.samr_report.specs.RankRows.{step_told, first_some}
use Rattle.samr_report.proofs.step_text.first_value.Given as goal

abbrev pub invariant-loop-q : goal.invariant-loop-q
invariant-loop-q l =
    first_some (map (λ q. get_or (get_or (step_told l.fn.step q).probes l.fn.field []) l.fn.number None) l.rows)
    ≡ first_some (map (λ q. get_or (get_or (step_told l.fn.step q).probes l.fn.field []) l.fn.number None) (drop l.q-index l.rows))
