use Rattle.std.proofs.Common.{◌≡◌, take}
use Rattle.samr_load.specs.Pieces.{load}
use Rattle.samr_load.proofs.pieces.load.Given as goal

abbrev pub invariant-loop-piece : goal.invariant-loop-piece
invariant-loop-piece l = l.sum ≡ load (take l.piece-index l.list)
