use Rattle.std.proofs.Common.{◌≡◌, take, map}
use Rattle.samr_balance.specs.HomeRow.{cutting_of, of_owner}
use Rattle.samr_balance.proofs.cuttings.cuttings.Given as goal

abbrev pub invariant-loop-piece : goal.invariant-loop-piece
invariant-loop-piece l = l.list.items ≡ map cutting_of (of_owner l.rank (take l.piece-index l.pieces))
