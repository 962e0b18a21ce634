use Rattle.std.proofs.Common.{take}
use Rattle.std.specs.List.{All}
use Rattle.samr_trials_levels.specs.First.{HasRoom}
use Rattle.samr_trials_levels.proofs.premises.have_room.Given as goal

abbrev pub invariant-loop-b : goal.invariant-loop-b
invariant-loop-b l = All (HasRoom l.fn.width) (take l.b-index l.level)
