use Rattle.std.proofs.Common.{take}
use Rattle.std.specs.List.{All}
use Rattle.samr_values.specs.Coarsen.{IsRefinement}
use Rattle.samr_values.proofs.tests.all_start_over.Given as goal

abbrev pub invariant-loop-e : goal.invariant-loop-e
invariant-loop-e l = All (λ e. IsRefinement l.fn.step e.base.bx) (take l.e-index l.edges)
