use Rattle.std.proofs.Common.{◌∙◌, ap}
use Rattle.samr_find.specs.Places.{lengths}
use Rattle.samr_find.proofs.Edges.{IsEdge-greatest, edge-more}
use Rattle.samr_find.proofs.edge.edge_of.Goals as goal

pub loop-b-preserved : goal.loop-b-preserved
loop-b-preserved c = record {
  value =
      edge-more c.args.boxes.now c.loop-b.b-index c.b-item.result c.loop-b.edge c.greatest-edge.result c.lengths.result c.loop-b-test.true
      c.loop-b.invariant.value (c.lengths.ensures.value ∙ ap lengths c.b-item.is) c.greatest-edge.ensures;
  edge = rw c.greatest-edge.ensures (IsEdge-greatest c.loop-b.invariant.edge c.lengths.ensures.edge);
}
