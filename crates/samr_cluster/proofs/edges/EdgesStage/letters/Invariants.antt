use Rattle.std.proofs.Common.{◌≡◌, take, map}
use Rattle.samr_level.specs.RefOrders.{edge_cmp, in_order}
use Rattle.samr_level.specs.Overlaps.{of_rank}
use Rattle.samr_cluster.proofs.edges.EdgesStage.letters.Given as goal

abbrev pub invariant-each : goal.invariant-each
invariant-each l = l.letters.items ≡ map (λ to. (to, in_order edge_cmp (of_rank to l.fn.self.found.items))) (take l.to-index l.to-items)
