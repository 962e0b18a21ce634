use Rattle.std.proofs.Common.{◌≡◌, ◌+◌, ◌++◌, [], ◌∷◌}
use Rattle.std.specs.List.{All}
use Rattle.samr_box.specs.declared.vector.IVec.{IVec}
use Rattle.samr_box.specs.Corners.{IsBox, span}
use Rattle.samr_boxlist.specs.Covers.{cover}
use Rattle.samr_boxlist.specs.Pieces.{pieces}
use Rattle.samr_boxlist.proofs.chop.push_pieces.Given as goal

abbrev pub invariant-loop-axis : goal.invariant-loop-axis
invariant-loop-axis l = record {
  items : l.parts.items ++ pieces l.axis l.most l.rest ≡ l.fn.parts.items ++ pieces l.axis l.most l.fn.b;
  cells : (x : IVec) → cover x l.parts.items + cover x (l.rest ∷ []) ≡ cover x l.fn.parts.items + cover x (l.fn.b ∷ []);
  boxes : All IsBox l.fn.parts.items → All IsBox l.parts.items;
}

abbrev pub decreases-loop-axis : goal.decreases-loop-axis
decreases-loop-axis l = span l.axis l.rest
