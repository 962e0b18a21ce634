use Rattle.std.proofs.Common.{◌≤◌, take}
use Rattle.std.specs.List.{All}
use Rattle.samr_trials_levels.proofs.premises.is_least.Given as goal

abbrev pub invariant-loop-r : goal.invariant-loop-r
invariant-loop-r l = All (λ r. l.fn.bound ≤ r.modulus) (take l.r-index l.rules)
