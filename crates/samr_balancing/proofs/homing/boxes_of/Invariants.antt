use Rattle.std.proofs.Common.{◌≡◌, take}
use Rattle.samr_load.specs.Laws.{boxes_of}
use Rattle.samr_balancing.proofs.homing.boxes_of.Given as goal

abbrev pub invariant-loop-one : goal.invariant-loop-one
invariant-loop-one l = l.boxes.items ≡ boxes_of (take l.one-index l.owned)
