use Rattle.std.proofs.Common.{◌≡◌, take, map}
use Rattle.std.specs.List.{enumerate_from}
use Rattle.samr_sched.specs.PlansOfParts.{field_by}
use Rattle.samr_sched.proofs.making.field_plans.Given as goal

abbrev pub invariant-loop-width : goal.invariant-loop-width
invariant-loop-width l = (l.field ≡ l.width-index) × (l.plans.items ≡ map (λ f. field_by l.ground l.near l.under l.fn.b f) (enumerate_from 0 (take l.width-index l.ghosts)))
