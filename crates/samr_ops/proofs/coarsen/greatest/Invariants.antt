use Rattle.std.proofs.Common.{◌≡◌, take}
use Rattle.std.specs.Prelude.{max, fold}
use Rattle.samr_ops.proofs.coarsen.greatest.Given as goal

abbrev pub invariant-loop-value : goal.invariant-loop-value
invariant-loop-value l = l.most ≡ fold max 0 (take l.value-index l.values)
