use Rattle.std.proofs.Common.{◌≡◌, ◌++◌, drop}
use Rattle.samr_trials_levels.specs.Kept.{kept}
use Rattle.samr_trials_levels.proofs.blocks.kept_boxes.Given as goal

abbrev pub invariant-loop-b : goal.invariant-loop-b
invariant-loop-b l = l.boxes.items ++ kept l.rest (drop l.b-index l.level) ≡ kept l.fn.mask l.level
