use Rattle.std.proofs.Common.{◌≡◌, take}
use Rattle.std.specs.List.{flat_map}
use Rattle.samr_cluster.specs.DecideRow.{parts_in}
use Rattle.samr_cluster.proofs.next_round.parts_on.Given as goal

abbrev pub invariant-loop-v : goal.invariant-loop-v
invariant-loop-v l = l.parts.items ≡ flat_map (λ v. parts_in v.verdict) (take l.v-index l.rulings)
