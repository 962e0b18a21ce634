use Rattle.std.proofs.Common.{◌≡◌, take}
use Rattle.std.specs.List.{flat_map}
use Rattle.samr_cluster.specs.Rounds.{asked_of}
use Rattle.samr_cluster.specs.DecideRow.{parts_in}
use Rattle.samr_cluster.proofs.next_round.directed_next.Given as goal

abbrev pub invariant-loop-j : goal.invariant-loop-j
invariant-loop-j l = l.directed.items ≡ flat_map (λ j. asked_of j.near (parts_in j.verdict)) (take l.j-index l.judged)
