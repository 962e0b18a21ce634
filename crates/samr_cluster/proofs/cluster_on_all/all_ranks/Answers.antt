use Rattle.std.proofs.Common.{ap, ◌∙◌, ◌++◌, ◌∷◌, [], sym}
use Rattle.samr_cluster.proofs.ClusterOnAllLaws.{range_more}
use Rattle.samr_cluster.proofs.cluster_on_all.all_ranks.Goals as goal

pub loop-rank-preserved : goal.loop-rank-preserved
loop-rank-preserved c = c.in_ok-push.ensures.items ∙ ap (λ l. l ++ c.loop-rank.rank ∷ []) c.loop-rank.invariant ∙ sym (range_more c.loop-rank.rank)
