use Rattle.std.proofs.Common.{◌≡◌, take}
use Rattle.samr_trials_levels.specs.First.{first_field}
use Rattle.samr_trials_levels.proofs.starting.field_patches.Given as goal

abbrev pub invariant-loop-b : goal.invariant-loop-b
invariant-loop-b l = l.patches.items ≡ first_field l.fn.bound l.fn.start (take l.b-index l.boxes) (l.fn.field, l.fn.width)
