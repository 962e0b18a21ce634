use Rattle.std.proofs.Common.{◌≡◌, ◌+◌, ◌^◌, ◌<◌, take}
use Rattle.samr_load.specs.Pieces.{load}
use Rattle.samr_load.proofs.pieces.is_countable.Given as goal

abbrev pub invariant-loop-piece : goal.invariant-loop-piece
invariant-loop-piece l = (l.room + load (take l.piece-index l.list) ≡ 2 ^ 63) × (0 < l.room)
