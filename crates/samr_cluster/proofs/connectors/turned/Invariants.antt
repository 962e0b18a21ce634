use Rattle.std.proofs.Common.{◌≡◌, take, map}
use Rattle.samr_level.specs.Refs.{turned}
use Rattle.samr_cluster.proofs.connectors.turned.Given as goal

abbrev pub invariant-loop-e : goal.invariant-loop-e
invariant-loop-e l = l.back.items ≡ map (λ e. turned e) (take l.e-index l.edges)
