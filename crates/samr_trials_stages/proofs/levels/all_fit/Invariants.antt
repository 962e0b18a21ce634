use Rattle.std.proofs.Common.{take, ◌<◌}
use Rattle.std.specs.List.{All}
use Rattle.samr_box.specs.Corners.{IsBox}
use Rattle.samr_trials_stages.proofs.levels.all_fit.Given as goal

abbrev pub invariant-loop-b : goal.invariant-loop-b
invariant-loop-b l = All (λ b. (b.owner < l.ranks) × IsBox b.bx) (take l.b-index l.level)
