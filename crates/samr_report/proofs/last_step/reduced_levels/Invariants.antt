use Rattle.std.proofs.Common.{◌≡◌, ◌%◌, take, sum_by}
use Rattle.samr_report.specs.Summaries.{sum_of}
use Rattle.samr_report.proofs.last_step.reduced_levels.Given as goal

abbrev pub invariant-loop-sums : goal.invariant-loop-sums
invariant-loop-sums l = l.total ≡ sum_by (λ sums. sum_of sums) (take l.sums-index l.levels) % l.fn.modulus
