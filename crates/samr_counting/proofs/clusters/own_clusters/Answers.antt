use Rattle.std.proofs.Common.{◌∙◌, ap}
use Rattle.samr_level.specs.RefOrders.{ref_cmp, in_order}
use Rattle.samr_counting.proofs.OwnClusters.{own_clusters_are}
use Rattle.samr_counting.proofs.clusters.own_clusters.Goals as goal

pub returns : goal.returns
returns c = λ p w r run same. c.in_level_order.ensures ∙ ap (in_order ref_cmp) c.in_ok-bases.ensures ∙ own_clusters_are p w run r c.args.edges.now same
