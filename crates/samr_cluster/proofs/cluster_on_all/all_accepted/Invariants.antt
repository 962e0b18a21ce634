use Rattle.std.proofs.Common.{◌≡◌, map, []}
use Rattle.std.specs.Prelude.{get_or}
use Rattle.std.specs.List.{flat_map, range_with_len}
use Rattle.samr_cluster.proofs.cluster_on_all.all_accepted.Given as goal

abbrev pub invariant-loop-rank : goal.invariant-loop-rank
invariant-loop-rank l = l.accepted.items ≡ map (λ r. flat_map (λ q. get_or q r []) l.rounds) (range_with_len 0 l.rank)
