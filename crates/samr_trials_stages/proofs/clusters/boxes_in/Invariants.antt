use Rattle.std.proofs.Common.{◌≡◌, take, map}
use Rattle.samr_trials_stages.proofs.clusters.boxes_in.Given as goal

abbrev pub invariant-loop-b : goal.invariant-loop-b
invariant-loop-b l = l.boxes.items ≡ map (λ b. b.bx) (take l.b-index l.level)
