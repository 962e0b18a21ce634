use Rattle.std.proofs.Common.{◌≡◌, take, map}
use Rattle.samr_sched.specs.PlansOfParts.{plan_by}
use Rattle.samr_sched.proofs.making.box_plans.Given as goal

abbrev pub invariant-loop-bx : goal.invariant-loop-bx
invariant-loop-bx l = l.plans.items ≡ map (λ b. plan_by l.ground l.ghosts l.selves l.downs (record { owner = l.rank; bx = b })) (take l.bx-index l.boxes)
