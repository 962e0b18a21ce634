use Rattle.std.proofs.Common.{◌≡◌, cond, take}
use Rattle.std.specs.List.{All}
use Rattle.samr_box.specs.declared.vector.IVec.{IVec}
use Rattle.samr_box.specs.Corners.{IsBox}
use Rattle.samr_boxlist.specs.Covers.{cover, held}
use Rattle.samr_boxlist.specs.Slabs.{all_subtracted}
use Rattle.samr_boxlist.proofs.cuts.subtract_each.Given as goal

abbrev pub invariant-loop-b : goal.invariant-loop-b
invariant-loop-b l = record {
  items : l.left.items ≡ all_subtracted l.fn.list.items (take l.b-index l.boxes);
  cells : (x : IVec) → cover x l.left.items ≡ cond (held x (take l.b-index l.boxes)) 0 (cover x l.fn.list.items);
  boxes : All IsBox l.fn.list.items → All IsBox l.left.items;
}
