use Rattle.std.proofs.Common.{ap, ◌∙◌}
use Rattle.std.specs.Prelude.{List}
use Rattle.samr_cluster.specs.declared.nodes.Told.{Told}
use Rattle.samr_cluster.specs.declared.nodes.Directed.{Directed}
use Rattle.samr_cluster.specs.declared.nodes.OpenNodes.{OpenNodes}
use Rattle.samr_cluster.specs.ClusterOnAll.{first_nodes, first_told}
use Rattle.samr_cluster.proofs.ClusterOnAllLaws.{one_pushed}
use Rattle.samr_cluster.proofs.cluster_on_all.first_nodes.Goals as goal

pub loop-rank-preserved : goal.loop-rank-preserved
loop-rank-preserved c =
    one_pushed (λ r. first_nodes c.args.ranks c.args.roots.now r) c.loop-rank.rank _ _ _ c.in_ok-push.ensures.items c.loop-rank.invariant
    (ap (λ (l : List Told). let o : OpenNodes = record { told = l; directed = c.from_vec-in-loop-rank.result } in o) (c.from_vec.ensures ∙ c.in_ok-told.ensures)
    ∙ ap (λ (l : List Directed). let o : OpenNodes = record { told = first_told c.args.ranks c.args.roots.now c.loop-rank.rank; directed = l } in o) (c.from_vec-in-loop-rank.ensures ∙ c.in_ok-directed.ensures))
