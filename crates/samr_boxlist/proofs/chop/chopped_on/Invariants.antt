use Rattle.std.proofs.Common.{◌≡◌, take}
use Rattle.std.specs.List.{All}
use Rattle.samr_box.specs.declared.vector.IVec.{IVec}
use Rattle.samr_box.specs.Corners.{IsBox}
use Rattle.samr_boxlist.specs.Covers.{cover}
use Rattle.samr_boxlist.specs.Pieces.{chopped_on}
use Rattle.samr_boxlist.proofs.chop.chopped_on.Given as goal

abbrev pub invariant-loop-b : goal.invariant-loop-b
invariant-loop-b l = record {
  items : l.parts.items ≡ chopped_on l.axis l.most (take l.b-index l.list);
  cells : (x : IVec) → cover x l.parts.items ≡ cover x (take l.b-index l.list);
  boxes : All IsBox l.parts.items;
}
