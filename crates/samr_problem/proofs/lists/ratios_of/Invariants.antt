use Rattle.std.proofs.Common.{◌≡◌, take}
use Rattle.samr_problem.proofs.lists.ratios_of.Given as goal

abbrev pub invariant-loop-vector : goal.invariant-loop-vector
invariant-loop-vector l = l.ratios.items ≡ take l.vector-index l.vectors
