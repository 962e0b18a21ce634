use Rattle.std.proofs.Common.{◌≡◌, take}
use Rattle.samr_level.specs.Levels.{own}
use Rattle.samr_load.specs.Laws.{boxes_of}
use Rattle.samr_balance.proofs.on_all.cuts_of.Given as goal

abbrev pub invariant-loop-old : goal.invariant-loop-old
invariant-loop-old l = l.list.items ≡ boxes_of (own l.rank (take l.old-index l.boxes))
