use Rattle.std.proofs.Common.{IsTrue, take}
use Rattle.std.specs.List.{All}
use Rattle.samr_box.specs.Corners.{IsBox, holds_box}
use Rattle.samr_level.proofs.region.all_inside.Given as goal

abbrev pub invariant-loop-p : goal.invariant-loop-p
invariant-loop-p l = record {
  inside : All (λ p. IsTrue (holds_box l.whole p)) (take l.p-index l.parts);
  boxes : All IsBox (take l.p-index l.parts);
}
