use Rattle.std.proofs.Common.{take}
use Rattle.std.specs.List.{All}
use Rattle.samr_box.specs.Vector.{AtMost}
use Rattle.samr_trials_fills.proofs.premises.all_within.Given as goal

abbrev pub invariant-loop-r : goal.invariant-loop-r
invariant-loop-r l = All (λ r. AtMost r.width l.fn.width) (take l.r-index l.rules)
