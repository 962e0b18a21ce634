use Rattle.std.proofs.Common.{◌≡◌, take, filter}
use Rattle.samr_sched.specs.PlansOfParts.{has_ghosts}
use Rattle.samr_sched.proofs.making.copies.Given as goal

abbrev pub invariant-loop-e : goal.invariant-loop-e
invariant-loop-e l = l.found.items ≡ filter (λ e. has_ghosts l.d l.fn.b l.fn.wide e) (take l.e-index l.near)
