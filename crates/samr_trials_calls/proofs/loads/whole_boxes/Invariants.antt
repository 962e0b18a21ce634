use Rattle.std.proofs.Common.{◌≡◌, map, take}
use Rattle.samr_load.specs.Pieces.{whole}
use Rattle.samr_trials_calls.proofs.loads.whole_boxes.Given as goal

abbrev pub invariant-loop-origin : goal.invariant-loop-origin
invariant-loop-origin l = l.list.items ≡ map whole (take l.origin-index l.boxes)
