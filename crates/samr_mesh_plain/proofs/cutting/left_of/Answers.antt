use Rattle.std.proofs.Common.{sym, subst}
use Rattle.std.proofs.lemmas.List.Elements.{All-get_or}
use Rattle.samr_box.specs.Lists.{Member}
use Rattle.samr_level.specs.Refs.{Owned}
use Rattle.samr_mesh.specs.Passes.{clusters_of}
use Rattle.samr_mesh_plain.proofs.cutting.left_of.Goals as goal

pub push_left-requires-clause-cluster : goal.push_left-requires-clause-cluster
push_left-requires-clause-cluster c =
    subst (λ (b : Owned). Member b (clusters_of c.args.problem.now c.args.w.now)) (sym c.cluster-item.is)
    (All-get_or (λ (b : Owned). Member b (clusters_of c.args.problem.now c.args.w.now)) c.args.clusters.now c.loop-cluster.cluster-index c.cluster-item.result c.loop-cluster-test.true c.requires.clusters)
