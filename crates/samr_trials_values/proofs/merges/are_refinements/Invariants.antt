use Rattle.std.proofs.Common.{take}
use Rattle.std.specs.List.{All}
use Rattle.samr_values.specs.Coarsen.{IsRefinement}
use Rattle.samr_trials_values.proofs.merges.are_refinements.Given as goal

abbrev pub invariant-loop-b : goal.invariant-loop-b
invariant-loop-b l = All (λ b. IsRefinement l.fn.step b.bx) (take l.b-index l.level)
