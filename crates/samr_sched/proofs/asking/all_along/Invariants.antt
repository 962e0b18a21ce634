use Rattle.std.proofs.Common.{◌≡◌, take}
use Rattle.std.specs.List.{flat_map, filter_map}
use Rattle.samr_sched.specs.PlansOfParts.{asked_of}
use Rattle.samr_sched.proofs.asking.all_along.Given as goal

abbrev pub invariant-loop-e : goal.invariant-loop-e
invariant-loop-e l = l.all.items ≡ flat_map (λ e. filter_map (λ p. asked_of l.below l.fn.step l.fn.field e p) l.rest) (take l.e-index l.under)
