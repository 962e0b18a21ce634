use Rattle.std.proofs.Common.{◌≡◌, take, filter}
use Rattle.samr_rounds.specs.Near.{is_near}
use Rattle.samr_cluster.proofs.signing.near_nodes.Given as goal

abbrev pub invariant-loop-t : goal.invariant-loop-t
invariant-loop-t l = l.near.items ≡ filter (λ t. is_near l.frame l.width l.boxes t.node) (take l.t-index l.told)
