use Rattle.std.proofs.Common.{◌≡◌, take}
use Rattle.samr_problem.specs.Lengths.{lengths_of}
use Rattle.samr_problem.specs.Capped.{capped_lengths}
use Rattle.samr_problem.proofs.lengths.lengths_of.Given as goal

abbrev pub invariant-loop-ratio : goal.invariant-loop-ratio
invariant-loop-ratio l = l.lengths ≡ capped_lengths (lengths_of l.fn.domain (take l.ratio-index l.ratios))
