use Rattle.std.proofs.Common.{◌≡◌, ◌%◌, take, sum_by}
use Rattle.samr_report.specs.Summaries.{values_at}
use Rattle.samr_report.proofs.last_step.reduced_values.Given as goal

abbrev pub invariant-loop-q : goal.invariant-loop-q
invariant-loop-q l = l.total ≡ sum_by (λ q. values_at l.fn.step q) (take l.q-index l.rows) % l.fn.modulus
