use Rattle.std.proofs.Common.{◌≡◌, take, ◌++◌}
use Rattle.samr_balance.specs.HomeRow.{kept_on}
use Rattle.samr_balance.proofs.home.push_kept.Given as goal

abbrev pub invariant-loop-piece : goal.invariant-loop-piece
invariant-loop-piece l = l.news.items ≡ l.fn.news.items ++ kept_on l.old l.rank (take l.piece-index l.pieces)
