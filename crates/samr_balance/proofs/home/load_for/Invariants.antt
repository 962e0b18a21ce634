use Rattle.std.proofs.Common.{◌≡◌, take}
use Rattle.std.specs.Prelude.{sum_by}
use Rattle.samr_balance.specs.HomeRow.{size_for}
use Rattle.samr_balance.proofs.home.load_for.Given as goal

abbrev pub invariant-loop-piece : goal.invariant-loop-piece
invariant-loop-piece l = l.sum ≡ sum_by (size_for l.rank) (take l.piece-index l.pieces)
