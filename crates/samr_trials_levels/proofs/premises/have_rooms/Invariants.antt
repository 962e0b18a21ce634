use Rattle.std.proofs.Common.{take}
use Rattle.std.specs.List.{All}
use Rattle.samr_trials_levels.specs.First.{HasRooms}
use Rattle.samr_trials_levels.proofs.premises.have_rooms.Given as goal

abbrev pub invariant-loop-g : goal.invariant-loop-g
invariant-loop-g l = All (HasRooms l.level) (take l.g-index l.widths)
