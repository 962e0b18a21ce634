use Rattle.std.proofs.Common.{◌≡◌, take, map}
use Rattle.std.specs.Prelude.{All}
use Rattle.samr_box.specs.Corners.{IsBox}
use Rattle.samr_verify.proofs.boxes.boxes_only.Given as goal

abbrev pub invariant-loop-b : goal.invariant-loop-b
invariant-loop-b l = record {
  value : l.boxes.items ≡ map (λ b. b.bx) (take l.b-index l.level);
  whole : All IsBox l.boxes.items;
}
