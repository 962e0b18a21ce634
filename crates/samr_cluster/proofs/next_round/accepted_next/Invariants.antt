use Rattle.std.proofs.Common.{◌≡◌, ◌++◌, take}
use Rattle.std.specs.List.{flat_map}
use Rattle.samr_cluster.specs.DecideRow.{taken_in}
use Rattle.samr_cluster.proofs.next_round.accepted_next.Given as goal

abbrev pub invariant-loop-h : goal.invariant-loop-h
invariant-loop-h l = l.accepted.items ≡ flat_map (λ v. taken_in v.verdict) l.fn.own ++ flat_map (λ h. flat_map (λ v. taken_in v.verdict) h.body) (take l.h-index l.held)
