use Rattle.std.proofs.Common.{◌≡◌, take, map}
use Rattle.samr_cluster.specs.DecideRow.{judge}
use Rattle.samr_cluster.proofs.verdict.judge_all.Given as goal

abbrev pub invariant-loop-c : goal.invariant-loop-c
invariant-loop-c l = l.judged.items ≡ map (λ c. judge l.rule c) (take l.c-index l.counted)
