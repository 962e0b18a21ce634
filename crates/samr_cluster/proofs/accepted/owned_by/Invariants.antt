use Rattle.std.proofs.Common.{◌≡◌, take, map}
use Rattle.samr_level.specs.Refs.{Owned}
use Rattle.samr_cluster.proofs.accepted.owned_by.Given as goal

abbrev pub invariant-loop-b : goal.invariant-loop-b
invariant-loop-b l = l.owned.items ≡ map (λ b. let o : Owned = record { owner = l.rank; bx = b } in o) (take l.b-index l.boxes)
