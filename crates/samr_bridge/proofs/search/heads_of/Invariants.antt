use Rattle.std.proofs.Common.{◌≡◌, take, map}
use Rattle.std.specs.Prelude.{All}
use Rattle.samr_box.specs.Corners.{IsBox}
use Rattle.samr_bridge.proofs.search.heads_of.Given as goal

abbrev pub invariant-loop-e : goal.invariant-loop-e
invariant-loop-e l = record {
  heads : l.heads.items ≡ map (λ e. e.head.bx) (take l.e-index l.edges);
  boxes : All IsBox l.heads.items;
}
