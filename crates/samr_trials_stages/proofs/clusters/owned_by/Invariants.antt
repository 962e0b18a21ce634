use Rattle.std.proofs.Common.{◌≡◌, take, filter, map, nat_eq}
use Rattle.samr_trials_stages.proofs.clusters.owned_by.Given as goal

abbrev pub invariant-loop-b : goal.invariant-loop-b
invariant-loop-b l = l.boxes.items ≡ map (λ b. b.bx) (filter (λ b. nat_eq b.owner l.rank) (take l.b-index l.level))
