use Rattle.std.proofs.Common.{◌≡◌, take}
use Rattle.std.specs.List.{All}
use Rattle.samr_box.specs.Corners.{IsBox}
use Rattle.samr_boxlist.specs.Slabs.{subtracted}
use Rattle.samr_boxlist.proofs.cuts.subtract.Given as goal

abbrev pub invariant-loop-a : goal.invariant-loop-a
invariant-loop-a l =
    (l.left.items ≡ subtracted (take l.a-index l.list) l.b) × All (λ a. IsBox a × IsBox l.b) (take l.a-index l.list)
