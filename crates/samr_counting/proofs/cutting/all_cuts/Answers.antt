use Rattle.std.proofs.Common.{sym}
use Rattle.std.specs.Prelude.{unsigned_abs}
use Rattle.samr_mesh.specs.Passes.{clusters_of}
use Rattle.samr_nest.specs.Nested.{cut_of}
use Rattle.samr_counting.proofs.OwnCuts.{one_more_cut, item_of}
use Rattle.samr_counting.proofs.cutting.all_cuts.Goals as goal

pub cut_one-requires : goal.cut_one-requires
cut_one-requires c =
    let (p, w, r, is, same) = c.requires in
    (p, w, r, is, item_of r (clusters_of p w) c.args.clusters.now c.loop-cluster.cluster-index c.cluster-item.result c.loop-cluster-test.true (sym c.cluster-item.is) same)

pub loop-cluster-preserved : goal.loop-cluster-preserved
loop-cluster-preserved c = λ p w r is same.
    let one = item_of r (clusters_of p w) c.args.clusters.now c.loop-cluster.cluster-index c.cluster-item.result c.loop-cluster-test.true (sym c.cluster-item.is) same in
    one_more_cut (cut_of c.args.knife.now.region w.level c.args.knife.now.nest (unsigned_abs c.args.knife.now.largest)) c.args.clusters.now c.loop-cluster.cluster-index _ _ c.in_ok-cut_one.field-0 c.cluster-item.result c.loop-cluster-test.true (sym c.cluster-item.is)
    c.in_ok-push.ensures.items (c.loop-cluster.invariant p w r is same) (c.in_ok-cut_one.ensures p w r is one)
