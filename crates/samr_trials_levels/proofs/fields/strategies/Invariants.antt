use Rattle.std.proofs.Common.{◌≡◌, take}
use Rattle.samr_trials_levels.proofs.fields.strategies.Given as goal

abbrev pub invariant-loop-r : goal.invariant-loop-r
invariant-loop-r g l = l.list.items ≡ take l.r-index l.fields
