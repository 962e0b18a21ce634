use Rattle.std.proofs.Common.{◌≡◌, take, map}
use Rattle.samr_cluster.specs.ReportRow.{count_in}
use Rattle.samr_cluster.proofs.counting.count_all.Given as goal

abbrev pub invariant-loop-p : goal.invariant-loop-p
invariant-loop-p l = l.counted.items ≡ map (λ p. count_in l.reports p.node) (take l.p-index l.directed)
