use Rattle.std.proofs.Common.{◌≡◌, take}
use Rattle.std.specs.Prelude.{None}
use Rattle.std.specs.List.{fold}
use Rattle.samr_rounds.specs.Owners.{better}
use Rattle.samr_rounds.proofs.owner.best_of.Given as goal

abbrev pub invariant-loop-c : goal.invariant-loop-c
invariant-loop-c l = l.best ≡ fold better None (take l.c-index l.counts)
