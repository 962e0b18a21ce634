use Rattle.std.proofs.Common.{◌≡◌, ◌++◌, take}
use Rattle.samr_cluster.proofs.cluster_on_all.push_copies.Given as goal

abbrev pub invariant-loop-a : goal.invariant-loop-a
invariant-loop-a l = l.all.items ≡ l.fn.all.items ++ take l.a-index l.accepted
