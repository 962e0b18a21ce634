use Rattle.std.proofs.Common.{◌≡◌, take, map}
use Rattle.samr_load.specs.Pieces.{whole}
use Rattle.samr_trials_stages.proofs.balances.whole_boxes.Given as goal

abbrev pub invariant-loop-old : goal.invariant-loop-old
invariant-loop-old l = l.list.items ≡ map whole (take l.old-index l.boxes)
