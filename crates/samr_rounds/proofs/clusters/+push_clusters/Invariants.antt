use Rattle.samr_sign.specs.Laws.{depth}
use Rattle.samr_rounds.proofs.clusters.+push_clusters.Given as goal

abbrev pub decreases-push_clusters : goal.decreases-push_clusters
decreases-push_clusters l = depth l.bx
