use Rattle.std.proofs.Common.{◌≡◌, take, map}
use Rattle.samr_load.specs.Pieces.{whole}
use Rattle.samr_balancing.proofs.first.whole_pieces.Given as goal

abbrev pub invariant-loop-one : goal.invariant-loop-one
invariant-loop-one l = l.pieces.items ≡ map whole (take l.one-index l.boxes)
