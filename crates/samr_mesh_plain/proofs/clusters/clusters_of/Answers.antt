use Rattle.std.proofs.Common.{◌∙◌, ap, List}
use Rattle.samr_box.specs.Corners.{Corners}
use Rattle.samr_sign.specs.Fields.{tagged}
use Rattle.samr_mesh.specs.Domains.{roots_at}
use Rattle.samr_mesh.specs.Passes.{Pass}
use Rattle.samr_mesh_plain.proofs.ClusterFacts.{owned, nodes_are, clusters_are}
use Rattle.samr_mesh_plain.proofs.clusters.clusters_of.Goals as goal

pub clusters-requires : goal.clusters-requires
clusters-requires c =
    nodes_are c.args.problem.now c.args.w.now c.as_slice.result.now c.accepted.ensures c.requires
    (c.as_slice.ensures.value ∙ c.in_ok-roots.ensures ∙ ap (λ (w : Pass). roots_at c.args.problem.now w.number) c.w.view_is)

pub returns : goal.returns
returns c =
    clusters_are c.args.problem.now c.args.w.now (tagged c.in_ok-tags.tags) c.rule_of.result c.as_slice.result.now c.in_ok-boxes.boxes.items c.boxes-level.result.now c.w.inside.ranks
    c.in_ok-owned.owned.items c.in_level_order.result.items c.in_ok-tags.ensures c.rule_of.ensures
    (c.as_slice.ensures.value ∙ c.in_ok-roots.ensures ∙ ap (λ (w : Pass). roots_at c.args.problem.now w.number) c.w.view_is)
    c.boxes-level.ensures (ap (λ (w : Pass). w.ranks) c.w.view_is) c.in_ok-boxes.ensures
    (c.in_ok-owned.ensures ∙ ap (λ (l : List Corners). owned (tagged c.in_ok-tags.tags) c.boxes-level.result.now c.w.inside.ranks l) c.as_slice-2.ensures.value)
    c.in_level_order.ensures
