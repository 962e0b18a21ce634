use Rattle.std.proofs.Common.{◌≡◌, map, take}
use Rattle.std.specs.Prelude.{All}
use Rattle.samr_box.specs.Vector.{AtMost}
use Rattle.samr_load.specs.Pieces.{whole}
use Rattle.samr_load.proofs.plain.whole_boxes.Given as goal

abbrev pub invariant-loop-origin : goal.invariant-loop-origin
invariant-loop-origin l = record {
  value : l.list.items ≡ map whole (take l.origin-index l.boxes);
  solid : All (λ o. AtMost o.bx.lo o.bx.hi) (take l.origin-index l.boxes);
}
