use Rattle.std.proofs.Common.{◌≡◌, take}
use Rattle.std.specs.List.{flat_map}
use Rattle.samr_cluster.specs.DecideRow.{told_to}
use Rattle.samr_cluster.proofs.verdict.rulings_for.Given as goal

abbrev pub invariant-loop-j : goal.invariant-loop-j
invariant-loop-j l = l.rulings.items ≡ flat_map (λ j. told_to l.rank j) (take l.j-index l.judged)
