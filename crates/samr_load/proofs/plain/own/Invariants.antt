use Rattle.std.proofs.Common.{◌≡◌, map, take}
use Rattle.samr_level.specs.Levels.{own}
use Rattle.samr_load.specs.Pieces.{whole}
use Rattle.samr_load.proofs.plain.own.Given as goal

abbrev pub invariant-loop-origin : goal.invariant-loop-origin
invariant-loop-origin l = l.list.items ≡ map whole (own l.rank (take l.origin-index l.boxes))
