use Rattle.std.proofs.Common.{◌∙◌}
use Rattle.samr_mesh_plain.proofs.CutFacts.{all_clusters, level_left}
use Rattle.samr_mesh_plain.proofs.cutting.cut_level.Goals as goal

pub left_of-requires-clause-clusters : goal.left_of-requires-clause-clusters
left_of-requires-clause-clusters c = all_clusters c.args.problem.now c.args.w.now c.as_slice.result.now (c.as_slice.ensures.value ∙ c.in_ok-clusters.ensures)

pub returns : goal.returns
returns c =
    level_left c.args.problem.now c.args.w.now c.as_slice.result.now c.in_ok-left.left.items c.in_level_order.result.items
    (c.as_slice.ensures.value ∙ c.in_ok-clusters.ensures) c.in_ok-left.ensures c.in_level_order.ensures
