use Rattle.std.proofs.Common.{◌≡◌, take}
use Rattle.samr_find.specs.Places.{IsEdge, edge_of}
use Rattle.samr_find.proofs.edge.edge_of.Given as goal

abbrev pub invariant-loop-b : goal.invariant-loop-b
invariant-loop-b l = record {
  value : l.edge ≡ edge_of (take l.b-index l.boxes);
  edge : IsEdge l.edge;
}
