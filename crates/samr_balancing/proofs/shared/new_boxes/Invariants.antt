use Rattle.std.proofs.Common.{◌≡◌, take, map}
use Rattle.samr_balancing.specs.Shares.{new_box}
use Rattle.samr_balancing.proofs.shared.new_boxes.Given as goal

abbrev pub invariant-loop-piece : goal.invariant-loop-piece
invariant-loop-piece l = l.boxes.items ≡ map new_box (take l.piece-index l.pieces)
