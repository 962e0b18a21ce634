use Rattle.std.proofs.Common.{◌≡◌, ◌++◌, take}
use Rattle.samr_cluster.proofs.connectors.push_all.Given as goal

abbrev pub invariant-loop-e : goal.invariant-loop-e
invariant-loop-e l = l.out.items ≡ l.fn.out.items ++ take l.e-index l.edges
