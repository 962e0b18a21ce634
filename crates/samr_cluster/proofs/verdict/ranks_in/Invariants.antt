use Rattle.std.proofs.Common.{◌≡◌, take, map}
use Rattle.samr_cluster.proofs.verdict.ranks_in.Given as goal

abbrev pub invariant-loop-n : goal.invariant-loop-n
invariant-loop-n l = l.ranks.items ≡ map (λ n. n.rank) (take l.n-index l.tags)
