use Rattle.std.proofs.Common.{◌≡◌, take, filter}
use Rattle.samr_sched.specs.PlansOfParts.{starts_at}
use Rattle.samr_sched.proofs.making.edges_at.Given as goal

abbrev pub invariant-loop-e : goal.invariant-loop-e
invariant-loop-e l = l.found.items ≡ filter (λ e. starts_at l.fn.b e) (take l.e-index l.edges)
