use Rattle.std.proofs.Common.{◌≡◌, ◌++◌, take}
use Rattle.std.specs.List.{flat_map}
use Rattle.samr_cluster.specs.DecideRow.{taken_in}
use Rattle.samr_cluster.proofs.next_round.push_accepted.Given as goal

abbrev pub invariant-loop-v : goal.invariant-loop-v
invariant-loop-v l = l.accepted.items ≡ l.fn.accepted.items ++ flat_map (λ v. taken_in v.verdict) (take l.v-index l.rulings)
