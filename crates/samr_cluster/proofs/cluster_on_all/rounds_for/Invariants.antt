use Rattle.std.proofs.Common.{◌≤◌, take}
use Rattle.std.specs.List.{All}
use Rattle.samr_sign.specs.Laws.{depth}
use Rattle.samr_cluster.proofs.cluster_on_all.rounds_for.Given as goal

abbrev pub invariant-loop-b : goal.invariant-loop-b
invariant-loop-b l = All (λ b. depth b ≤ l.most) (take l.b-index l.roots)
