use Rattle.std.proofs.Common.{◌≡◌, take, filter, nat_eq}
use Rattle.samr_trials_stages.proofs.modifies.own.Given as goal

abbrev pub invariant-loop-b : goal.invariant-loop-b
invariant-loop-b l = l.kept.items ≡ filter (λ b. nat_eq b.owner l.rank) (take l.b-index l.boxes)
