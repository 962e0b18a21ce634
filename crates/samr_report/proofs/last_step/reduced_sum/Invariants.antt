use Rattle.std.proofs.Common.{◌≡◌, ◌%◌, take, sum_by}
use Rattle.samr_report.proofs.last_step.reduced_sum.Given as goal

abbrev pub invariant-loop-s : goal.invariant-loop-s
invariant-loop-s l = l.total ≡ sum_by (λ s. s.sum) (take l.s-index l.sums) % l.fn.modulus
