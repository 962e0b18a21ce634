use Rattle.std.proofs.Common.{◌≡◌, take, ◌++◌}
use Rattle.samr_balance.specs.HomeRow.{told_on}
use Rattle.samr_balance.proofs.cuttings.push_told.Given as goal

abbrev pub invariant-loop-cutting : goal.invariant-loop-cutting
invariant-loop-cutting l = l.news.items ≡ l.fn.news.items ++ told_on l.old l.sender (take l.cutting-index l.list)
